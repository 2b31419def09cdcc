-- The tests of the scan, as the code makes them one after the other.
-- Assumes nothing.
use Prim.Native.Nat.{ℕ, ◌-◌}
use mathlib.Core.Path.{◌≡◌, refl, sym, ap, ◌∙◌}
use mathlib.Core.Bool.{Bool, true, false, cond, ◌||◌, or-false}
use mathlib.Core.List.{[], ◌∷◌, map, foldl, foldl-map}
use lib.Dec.{eqb}
use borrow.Author.Tests.{eqb-true, eq-eqb, ne_eqb}
use Rattle.rules.specs.Choice.{any, from}
use Rattle.rules.specs.Words.{Table, size_of, levels_in_use, buckets_of, slot_at, slots_in, place_of, place_at, slots_of, slots_in_use, is_taken, token_of, taken, key_in}
use Rattle.rules.specs.Places.{hashes_of, first_place, second_place, same_place, places_in, probes, places_of, lookup}
use Rattle.rules.specs.Answers.{LookupTells}
use Rattle.rules.proofs.Calls.Meanings.{lookup-told_by}
use Rattle.rules.specs.declared.State.{State}
use Rattle.rules.specs.declared.Header.{Header}
use Rattle.rules.specs.declared.Level.{Level}
use Rattle.rules.specs.declared.Hashes.{Hashes}
use Rattle.rules.specs.declared.Place.{Place}
use Rattle.rules.specs.declared.Slot.{Slot}
use Rattle.rules.specs.declared.Lookup.{Lookup}
use Rattle.rules.specs.declared.Lookup.TheVariants.{Stands, Absent}
use Rattle.reading.specs.Levels.{place_in}
use Rattle.rules.proofs.Basics.Loops.{fold_from, fold_whole, within, fold_within, any-within}
use Rattle.scanning.specs.Copying.{in_order, same_slot}
use Rattle.scanning.specs.declared.copies.Scan.{Scan}
use Rattle.scanning.specs.declared.copies.Scan.TheVariants.{Clear, Spoilt}
use Rattle.scanning.specs.Scans.{met_of, item_met, slot_met, scan_of}

-- ---- the places of a key, level by level

module _ (x : Slot) (y : Hashes) where
  -- in one of its two places in a level
  abbrev pub at_place : Level → Bool
  at_place l = any (map (same_place (place_of x)) (places_in y l))

  module _ (l : Level) where
    or_self : (b : Bool) → (b || b) ≡ b
    or_self true = refl
    or_self false = refl

    at_either : at_place l ≡ (same_place (place_of x) (first_place y l) || same_place (place_of x) (second_place y l))
    unfolding places_in same_place place_of
    at_either = go (same_place (first_place y l) (second_place y l)) refl
      where
        go : (b : Bool) → eqb (first_place y l).bucket (second_place y l).bucket ≡ b
            → any (map (same_place (place_of x)) (first_place y l ∷ cond b [] (second_place y l ∷ []))) ≡ (same_place (place_of x)
            (first_place y l) || same_place (place_of x) (second_place y l))
        go true e = rw (eqb-true (first_place y l).bucket (second_place y l).bucket e) (or-false (eqb x.bucket (second_place y l).bucket)
            ∙ sym (or_self (eqb x.bucket (second_place y l).bucket)))
        go false e = ap (λ (b : Bool). same_place (place_of x) (first_place y l) || b) (or-false (same_place (place_of x) (second_place y l)))

    module _ {f : Place} (p : f ≡ place_in l y.first) where
      pub at_first : x.bucket ≡ f.bucket → eqb x.bucket f.bucket ≡ at_place l
      unfolding same_place place_of first_place
      at_first e = rw (at_either, ← p, eq-eqb _ _ e)

      pub at_second : (x.bucket ≡ f.bucket → ⊥) → {s : Place} → s ≡ place_in l y.second → eqb x.bucket s.bucket ≡ at_place l
      unfolding same_place place_of first_place second_place
      at_second n q = rw (at_either, ← p, ← q, ne_eqb _ _ n)

  -- along the levels in use
  pub at_any : (s : State) → any (map (same_place (place_of x)) (probes s y)) ≡ any (map at_place (levels_in_use s))
  unfolding probes
  at_any s = any-within (same_place (place_of x)) (places_in y) (levels_in_use s)

-- ---- a taken slot

module _ (t : Table) (h : Header) (x : Slot) (found : Scan) {key : ℕ} (k : key ≡ key_in t x) where
  pub item-absent : {n : ℕ} {o : Lookup} → LookupTells o (lookup t h key) → o ≡ Absent n → Spoilt ≡ item_met t h found x
  unfolding item_met
  item-absent e q = rw (← k, ← lookup-told_by e, q)

  module _ {y : Slot} {n : ℕ} {o : Lookup} (e : LookupTells o (lookup t h key)) (q : o ≡ Stands y n) where
    pub item_itself : same_slot x y ≡ true → found ≡ item_met t h found x
    unfolding item_met
    item_itself f = rw (← k, ← lookup-told_by e, q, f)

    pub item_copied : {a : Hashes} → a ≡ hashes_of h key → same_slot x y ≡ false
        → cond (any (map (same_place (place_of x)) (probes h.state a))) (met_of found (in_order x y)) Spoilt ≡ item_met t h found x
    unfolding item_met places_of
    item_copied g f = rw (← k, ← lookup-told_by e, q, f, g)

-- slot s of a bucket with this token word
module _ (t : Table) (h : Header) (p : Place) (s : ℕ) (found : Scan) {word : ℕ} (w : word ≡ token_of t p.bucket) where
  pub slot-taken : is_taken h word s ≡ true → slot_met t h found (slot_at p s) ≡ item_met t h found (slot_at p s)
  unfolding slot_met slot_at taken
  slot-taken e = rw (← w, e)

  pub slot-free : is_taken h word s ≡ false → slot_met t h found (slot_at p s) ≡ found
  unfolding slot_met slot_at taken
  slot-free e = rw (← w, e)

-- ---- the buckets of a level

-- slot by slot, bucket by bucket
pub level_met : Table → Header → Level → Scan → ℕ → Scan
level_met t h l found j = foldl (slot_met t h) found (slots_in (place_at l j))

module _ (t : Table) (h : Header) (l : Level) (found : Scan) {size : ℕ} (power : size ≡ size_of l) where
  pub level-whole : foldl (slot_met t h) found (slots_of l) ≡ fold_from (level_met t h l) found (from (size - 1) size) 0
  unfolding level_met slots_of buckets_of
  level-whole =
      rw power
      (fold_within (slot_met t h) slots_in found (map (place_at l) (from (size_of l - 1) (size_of l)))
      ∙ foldl-map (place_at l) (within (slot_met t h) slots_in) (from (size_of l - 1) (size_of l)) found
      ∙ fold_whole (level_met t h l) found (from (size_of l - 1) (size_of l)))

pub bucket_met : (t : Table) (h : Header) (l : Level) (found : Scan) (p : Place) → p.level ≡ l.name
    → foldl (slot_met t h) found (slots_in p) ≡ level_met t h l found p.bucket
unfolding level_met place_at
bucket_met t h l found p q = rw (← q)

-- ---- the levels in use, one after the other

pub levels_whole : (t : Table) (h : Header) → scan_of t h ≡ fold_from (within (slot_met t h) slots_of) Clear (levels_in_use h.state) 0
unfolding scan_of slots_in_use
levels_whole t h = fold_within (slot_met t h) slots_of Clear (levels_in_use h.state) ∙ fold_whole (within (slot_met t h) slots_of) Clear (levels_in_use h.state)
