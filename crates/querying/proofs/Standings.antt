-- What a lookup finds lies in the table, if the places that are searched do; and its count is the position of the bucket where
-- it stopped.
-- Assumes nothing.
use Prim.Native.Nat.{ℕ, suc, ◌+◌, ◌≤◌}
use mathlib.Core.Path.{◌≡◌, refl, ap}
use mathlib.Core.List.Memᴰ.{head as here}
use mathlib.Core.List.Memᴰ.{tail as there}
use mathlib.Core.List.{List, [], ◌∷◌, Memᴰ as In}
use mathlib.Core.Option.{Option, none, some}
use native.Mathlib.Omega.{arith}
use lib.ListN.{length}
use denote.Enum.Declared.{tag_of}
use types.Run.{OneOf}
use Rattle.rules.specs.Choice.{given}
use Rattle.rules.specs.Words.{Table, slots, slot_at, slots_in, place_of}
use Rattle.rules.specs.Places.{hashes_of, places_of, holds, hit_in, stands_or, seek, lookup}
use Rattle.rules.specs.declared.Header.{Header}
use Rattle.rules.specs.declared.Place.{Place}
use Rattle.rules.specs.declared.Slot.{Slot}
use Rattle.rules.specs.declared.Lookup.{Lookup}
use Rattle.rules.specs.declared.Lookup.TheVariants.{Stands, Absent}
use Rattle.rules.specs.contracts.Lookup.{the_type}
use Rattle.rules.proofs.Basics.Lists.{first_of-some, given-some, map_in, from_in}
use Rattle.rules.proofs.Words.FreeSlots.{slot-place}
use Rattle.rules.proofs.Places.Few.{six_at_most}
use Rattle.reading.specs.Within.{BucketWithin, SlotWithin, AllWithin, Standing}
use Rattle.querying.specs.Promises.{here_or, position}

-- a slot of a bucket of the table lies in the table
slot-within : (t : Table) (p : Place) (x : Slot) → BucketWithin t p.bucket → In x (slots_in p) → SlotWithin t x
unfolding slots_in slot_at place_of
slot-within t p x w i =
    let r = map_in (slot_at p) slots x i in
    (rw (ap (λ (q : Place). q.bucket) (slot-place p x i)) w, rw (ap (λ (y : Slot). y.slot) r.2) (omega (arith, from_in 0 4 r.0 r.1)))

module _ (t : Table) (h : Header) (key : ℕ) where
  hit_within : (p : Place) (x : Slot) → BucketWithin t p.bucket → hit_in t h key p ≡ some x → SlotWithin t x
  unfolding hit_in
  hit_within p x w e =
      let f = first_of-some (λ (y : Slot). given (holds t h key y) y) (slots_in p) x e in
      slot-within t p x w (rw (given-some (holds t h key f.found) f.found x f.gives).1 at f.inside)

  pub seek-within : (ps : List Place) (n : ℕ) → AllWithin t ps → Standing t (seek (hit_in t h key) n ps)
  seek-within [] n w = tt
  seek-within (p ∷ ps) n w = go (hit_in t h key p) refl (seek-within ps (n + 1) (λ q i. w q (there i)))
    where
      go : (o : Option Slot) → hit_in t h key p ≡ o → Standing t (seek (hit_in t h key) (n + 1) ps)
          → Standing t (stands_or o (n + 1) (seek (hit_in t h key) (n + 1) ps))
      go (some x) e k = hit_within p x (w p (here refl)) e
      go none e k = k

-- what a lookup answers, by the number of its case
pub is_absent : (f : Lookup) → OneOf (1 ∷ []) (tag_of the_type f) → (n : ℕ) × (f ≡ Absent n)
is_absent (Stands x n) e = absurd (omega arith)
is_absent (Absent n) e = (n, refl)

-- the number that a lookup tells
abbrev pub looked : Lookup → ℕ
looked (Stands x n) = n
looked (Absent n) = n

pub seek-position : (hit : Place → Option Slot) (ps : List Place) (n : ℕ) → looked (seek hit n ps) ≡ n + position hit ps
seek-position hit [] n = omega arith
seek-position hit (p ∷ ps) n = go (hit p) (seek-position hit ps (n + 1))
  where
    go : (o : Option Slot) → looked (seek hit (n + 1) ps) ≡ (n + 1) + position hit ps
        → looked (stands_or o (n + 1) (seek hit (n + 1) ps)) ≡ n + here_or o (position hit ps)
    go (some x) e = refl
    go none e = omega arith

pub position-few : (hit : Place → Option Slot) (ps : List Place) → position hit ps ≤ length ps
position-few hit [] = omega arith
position-few hit (p ∷ ps) = go (hit p) (position-few hit ps)
  where
    go : (o : Option Slot) → position hit ps ≤ length ps → here_or o (position hit ps) ≤ suc (length ps)
    go (some x) e = omega arith
    go none e = omega arith

-- "no more than four buckets, six while growing"
pub lookup-few : (t : Table) (h : Header) (key : ℕ) → looked (lookup t h key) ≤ 6
unfolding lookup places_of
lookup-few t h key =
    let ps = places_of h key in
    omega (arith, seek-position (hit_in t h key) ps 0, position-few (hit_in t h key) ps, six_at_most (hashes_of h key) h.state)
