-- The places of a key: each is a bucket of a level in use, and no two are one bucket. A taken slot "in a place of its key"
-- stands in that place, level and all.
-- Assumes nothing.
use Prim.Native.Nat.{ℕ, ◌+◌, ◌*◌, ◌≤◌, ◌<◌}
use mathlib.Core.Path.{◌≡◌, refl, sym, ap, ◌∙◌}
use mathlib.Core.Bool.{Bool, true, false, cond}
use mathlib.Core.List.Memᴰ
use mathlib.Core.List.{[], ◌∷◌, Memᴰ as In}
use native.Mathlib.Omega.{arith}
use lib.Pow.{pow_pos}
use borrow.Author.Tests.{eqb-false}
use Rattle.rules.specs.Words.{Table, GoodState, GoodHeader, header_of, levels_in_use, InLevel, InUse, place_of, slots_in, key_in}
use Rattle.rules.specs.Places.{hashes_of, first_place, second_place, same_place, places_in, probes, places_of}
use Rattle.rules.specs.Soundness.{in_place}
use Rattle.rules.specs.declared.State.{State}
use Rattle.rules.specs.declared.Header.{Header}
use Rattle.rules.specs.declared.Level.{Level}
use Rattle.rules.specs.declared.Hashes.{Hashes}
use Rattle.rules.specs.declared.Place.{Place}
use Rattle.rules.specs.declared.Slot.{Slot}
use Rattle.rules.proofs.Basics.Lists.{flat_map_in, Ascending, ascending_flat_map}
use Rattle.rules.proofs.Words.Headers.{bucket-fits}
use Rattle.rules.proofs.Basics.Tests.{Tells, tells_eq, tells-any}
use Rattle.rules.proofs.Words.FreeSlots.{slot-place}
use Rattle.rules.proofs.Places.PlacesWithin.{place_in_level}
use Rattle.rules.proofs.Words.SlotsInUse.{slot-number, slots_of_place}
use Rattle.rules.proofs.Words.Levels.{exponent-fits, Differ, exponents_differ, ranges_apart, level_of_bucket}

-- a bucket of a level in use
pub record PlaceInUse (s : State) (p : Place) : Type 0 where
  pub level : Level
  pub used : In level (levels_in_use s)
  pub name : p.level ≡ level.name
  pub bucket : InLevel level p.bucket

pub same-place-tells : (p q : Place) → Tells (same_place p q) (p.bucket ≡ q.bucket)
unfolding same_place
same-place-tells p q = tells_eq _ _

-- not one bucket
abbrev pub Elsewhere : Place → Place → Type 0
Elsewhere p q = p.bucket ≡ q.bucket → ⊥

module _ (x : Hashes) (l : Level) where
  places_of_level : Ascending Elsewhere (places_in x l)
  unfolding places_in same_place
  places_of_level = go (same_place (first_place x l) (second_place x l)) refl
    where
      go : (b : Bool) → same_place (first_place x l) (second_place x l) ≡ b → Ascending Elsewhere (first_place x l ∷ cond b [] (second_place x l ∷ []))
      go true q = (λ p i. absurd (Memᴰ.not-nil i), tt)
      go false q = (λ p i e. eqb-false _ _ q (e ∙ ap (λ (z : Place). z.bucket) (Memᴰ.eq_of_singleton i)), (λ p i. absurd (Memᴰ.not-nil i), tt))

pub places_in_use : (h : Header) (key : ℕ) (p : Place) → In p (places_of h key) → PlaceInUse h.state p
unfolding places_of probes
places_in_use h key p i =
    let r = flat_map_in (places_in (hashes_of h key)) (levels_in_use h.state) p i in
    let q = place_in_level (hashes_of h key) r.0 p r.2 in
    record { level = r.0; used = r.1; name = q.0; bucket = (q.1, omega arith) }

pub places_apart : (c : ℕ) (h : Header) → GoodState c h.state → (key : ℕ) → Ascending Elsewhere (places_of h key)
unfolding places_of probes
places_apart c h good key =
    let x = hashes_of h key in
    ascending_flat_map Differ Elsewhere (places_in x) (levels_in_use h.state) (exponents_differ c h.state good) (places_of_level x)
    (λ l m z p q i j e.
    let a = place_in_level x l p i in
    let b = place_in_level x m q j in
    z (ranges_apart l.exponent m.exponent p.bucket (omega arith) (omega arith)))

-- ---- a bucket tells its level

module _ (s : State) where
  -- the place of a slot in use, and the slots of a place in use
  pub place_of_slot : (x : Slot) → InUse s x → PlaceInUse s (place_of x)
  unfolding place_of
  place_of_slot x u = record { level = u.level; used = u.used; name = u.name; bucket = u.bucket }

  pub slot_of_place : (p : Place) (x : Slot) → PlaceInUse s p → In x (slots_in p) → InUse s x
  unfolding place_of
  slot_of_place p x u i =
      let e = slot-place p x i in
      record {
        level = u.level;
        used = u.used;
        name = ap (λ (z : Place). z.level) e ∙ u.name;
        bucket =
            rw (ap (λ (z : Place). z.bucket) e) u.bucket;
        slot = slot-number p x i;
      }

  module _ (c : ℕ) (good : GoodState c s) where
    pub place_by_bucket : (p q : Place) → PlaceInUse s p → PlaceInUse s q → p.bucket ≡ q.bucket → p ≡ q
    place_by_bucket p q u v b =
        let same = level_of_bucket c s good u.level v.level q.bucket u.used v.used (rw b at u.bucket) v.bucket in
        let level : p.level ≡ q.level = u.name ∙ ap (λ (l : Level). l.name) same ∙ sym v.name in
        λ i. record { level = level i; bucket = b i }

    pub slot_by_bucket : (x y : Slot) → InUse s x → InUse s y → x.bucket ≡ y.bucket → x.slot ≡ y.slot → x ≡ y
    unfolding place_of
    slot_by_bucket x y u v b n =
        let e = place_by_bucket (place_of x) (place_of y) (place_of_slot x u) (place_of_slot y v) b in
        λ i. record { level = (e i).level; bucket = (e i).bucket; slot = n i }

-- a slot of a place of a key is in use
pub among_used : (h : Header) (key : ℕ) (x : Slot) → x.slot < 4 → In (place_of x) (places_of h key) → InUse h.state x
among_used h key x low among = slot_of_place h.state (place_of x) x (places_in_use h key (place_of x) among) (slots_of_place x low)

-- a slot in use lies in the table
pub slot-within : (size : ℕ) (h : Header) → GoodHeader size h → (x : Slot) → InUse h.state x → (9 + 13 * x.bucket + 13 ≤ size) × (x.slot < 4)
slot-within size h g x u =
    let e = u.level.exponent in
    (bucket-fits size h g e x.bucket (exponent-fits h.c h.state g.state u.level u.used) (omega (arith, u.bucket, pow_pos e)), u.slot)

-- a slot in a bucket of a key's place stands in that place, level and all
pub own-place : (c : ℕ) (h : Header) → GoodState c h.state → (key : ℕ) (x : Slot) → InUse h.state x → (p : Place) → In p (places_of h key)
    → x.bucket ≡ p.bucket → In (place_of x) (places_of h key)
unfolding place_of
own-place c h good key x u p i e = Memᴰ.cast (place_by_bucket h.state c good (place_of x) p (place_of_slot h.state x u) (places_in_use h key p i) e) i

-- "each taken slot in a place of its key" is tested by the bucket alone
pub in_place_lem : (c : ℕ) (t : Table) → GoodState c (header_of t).state → (x : Slot) → InUse (header_of t).state x → in_place t x ≡ true
    → In (place_of x) (places_of (header_of t) (key_in t x))
unfolding in_place same_place place_of
in_place_lem c t good x u e =
    let h = header_of t in
    let r = (tells-any (same_place (place_of x)) _ (same-place-tells (place_of x)) (places_of h (key_in t x))).0 e in
    own-place c h good (key_in t x) x u r.0 r.1 r.2
