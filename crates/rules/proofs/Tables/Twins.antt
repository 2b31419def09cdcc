-- The pairs of taken slots with the same key: `twins` lists each of them, once, in the order of slots.
-- Assumes nothing.
use Prim.Native.Nat.{◌<◌}
use mathlib.Core.Path.{◌≡◌, sym, ap, ◌∙◌}
use mathlib.Core.List.Memᴰ
use mathlib.Core.List.Memᴰ.{head as here}
use mathlib.Core.List.Memᴰ.{tail as there}
use mathlib.Core.List.{List, [], ◌∷◌, map, Memᴰ as In}
use mathlib.Core.Logic.{◌⊎◌, inl, inr}
use native.Mathlib.Omega.{arith}
use borrow.Author.Tests.{eqb-true, eq-eqb}
use Rattle.rules.specs.Choice.{select}
use Rattle.rules.specs.Words.{Table, header_of, slots_in_use, key_in, taken}
use Rattle.rules.specs.Soundness.{taken_slots, TakenSlot, Before, same_key, twins_of, twins}
use Rattle.rules.specs.declared.Slot.{Slot}
use Rattle.rules.proofs.Basics.Lists.{select_in, in_select, map_in, in_map, Ascending, ascending_append, ascending_compare, ascending-select}
use Rattle.rules.proofs.Basics.Lists.{ascending-map, ascending_weaken, NoRepeat}
use Rattle.rules.proofs.Words.SlotsInUse.{slot_in_use, slots_in_use_lem, slots_ascend}

-- ---- the order of slots

module _ (x y : Slot) where
  -- of two slots only one comes before the other
  pub before_once : Before x y → Before y x → ⊥
  before_once (inl a) (inl b) = omega arith
  before_once (inl a) (inr b) = omega arith
  before_once (inr a) (inl b) = omega arith
  before_once (inr a) (inr b) = go a.1 b.1
    where
      go : (x.bucket < y.bucket) ⊎ ((x.bucket ≡ y.bucket) × (x.slot < y.slot))
          → (y.bucket < x.bucket) ⊎ ((y.bucket ≡ x.bucket) × (y.slot < x.slot)) → ⊥
      go (inl c) (inl d) = omega arith
      go (inl c) (inr d) = omega arith
      go (inr c) (inl d) = omega arith
      go (inr c) (inr d) = omega arith

  pub before-apart : Before x y → x ≡ y → ⊥
  before-apart b e = before_once b (rw e (rw e at b))

slots_apart : (l : List Slot) → Ascending Before l → NoRepeat l
slots_apart l a = ascending_weaken Before _ l a before-apart

-- ---- the taken slots

module _ (t : Table) where
  pub taken_in_lem : (x : Slot) → In x (taken_slots t) → TakenSlot t x
  unfolding taken_slots
  taken_in_lem x i =
      let r = select_in (taken t (header_of t)) (slots_in_use (header_of t).state) x i in
      record { used = slot_in_use (header_of t).state x r.0; shown = r.1 }

  pub in_taken : (x : Slot) → TakenSlot t x → In x (taken_slots t)
  unfolding taken_slots
  in_taken x u = in_select (taken t (header_of t)) (slots_in_use_lem (header_of t).state x u.used) u.shown

  pub taken_ascend : Ascending Before (taken_slots t)
  unfolding taken_slots
  taken_ascend = ascending-select Before (taken t (header_of t)) (slots_in_use (header_of t).state) (slots_ascend (header_of t).state)

  pub taken-apart : NoRepeat (taken_slots t)
  taken-apart = slots_apart (taken_slots t) taken_ascend

  pub taken_compare : (a b : Slot) → TakenSlot t a → TakenSlot t b → (a ≡ b) ⊎ (Before a b ⊎ Before b a)
  taken_compare a b u v = ascending_compare Before (taken_slots t) taken_ascend a b (in_taken a u) (in_taken b v)

-- ---- a slot paired with each of a list

abbrev paired : Slot → List Slot → List (Slot × Slot)
paired x l = map (λ (y : Slot). (x, y)) l

module _ (x : Slot) (l : List Slot) where
  paired_in : (u : Slot × Slot) → In u (paired x l) → (u.0 ≡ x) × In u.1 l
  paired_in u i =
      let r = map_in (λ (y : Slot). (x, y)) l u i in
      (ap (λ (p : Slot × Slot). p.0) r.2, Memᴰ.cast (ap (λ (p : Slot × Slot). p.1) r.2) r.1)

  in_paired : (u : Slot × Slot) → u.0 ≡ x → In u.1 l → In u (paired x l)
  in_paired u e i = Memᴰ.cast {A = Slot × Slot} (λ j. (e j, u.1)) (in_map (λ (y : Slot). (x, y)) i)

  paired_apart : NoRepeat l → NoRepeat (paired x l)
  paired_apart a = ascending-map _ _ (λ (y : Slot). (x, y)) l a (λ y z d e. d (ap (λ (p : Slot × Slot). p.1) e))

-- ---- the pairs

-- two taken slots with the same key, in order
pub record Twins (t : Table) (x y : Slot) : Type 0 where
  pub first : TakenSlot t x
  pub later : TakenSlot t y
  pub key : key_in t x ≡ key_in t y
  pub order : Before x y

module _ (t : Table) where
  -- a pair of a list, as facts
  Pair : List Slot → Slot → Slot → Type 0
  Pair l x y = In x l × In y l × (key_in t x ≡ key_in t y) × Before x y

  pair_in : (l : List Slot) → Ascending Before l → (u : Slot × Slot) → In u (twins_of t l) → Pair l u.0 u.1
  unfolding same_key Pair
  pair_in [] a u i = absurd (Memᴰ.not-nil i)
  pair_in (z ∷ zs) a u i = go (Memᴰ.append_cases (paired z (select (same_key t z) zs)) i) (pair_in zs a.1 u)
    where
      go : In u (paired z (select (same_key t z) zs)) ⊎ In u (twins_of t zs) → (In u (twins_of t zs) → Pair zs u.0 u.1) → Pair (z ∷ zs) u.0 u.1
      go (inl j) k =
          let r = paired_in z (select (same_key t z) zs) u j in
          let s = select_in (same_key t z) zs u.1 r.1 in
          (here r.0, there s.0, rw r.0 (eqb-true _ _ s.1), rw r.0 (a.0 u.1 s.0))
      go (inr j) k = let r = k j in (there r.0, there r.1, r.2, r.3)

  in_pairs : (l : List Slot) → Ascending Before l → (x y : Slot) → Pair l x y → In {A = Slot × Slot} (x, y) (twins_of t l)
  unfolding same_key Pair
  in_pairs [] a x y p = absurd (Memᴰ.not-nil p.0)
  in_pairs (z ∷ zs) a x y p = go (Memᴰ.cases_cons p.0) (Memᴰ.cases_cons p.1) (in_pairs zs a.1 x y)
    where
      go : (x ≡ z) ⊎ In x zs → (y ≡ z) ⊎ In y zs → (Pair zs x y → In {A = Slot × Slot} (x, y) (twins_of t zs)) → In {A = Slot × Slot} (x, y) (twins_of t (z ∷ zs))
      go (inl e) (inl f) k = absurd (before-apart x y p.3 (e ∙ sym f))
      go (inl e) (inr j) k = Memᴰ.append_left (twins_of t zs)
          (in_paired z (select (same_key t z) zs) (x, y) e (in_select (same_key t z) j (eq-eqb _ _ (rw e at p.2))))
      go (inr i) (inl f) k = absurd (before_once x y p.3 (rw f (a.0 x i)))
      go (inr i) (inr j) k = Memᴰ.append_right (paired z (select (same_key t z) zs)) (k (i, j, p.2, p.3))

  pairs-apart : (l : List Slot) → Ascending Before l → NoRepeat (twins_of t l)
  unfolding Pair
  pairs-apart [] a = tt
  pairs-apart (z ∷ zs) a =
      ascending_append _ (paired z (select (same_key t z) zs)) (twins_of t zs)
      (paired_apart z (select (same_key t z) zs) (slots_apart (select (same_key t z) zs) (ascending-select Before (same_key t z) zs a.1)))
      (pairs-apart zs a.1)
      (λ u v i j e. before-apart z v.0 (a.0 v.0 (pair_in zs a.1 v j).0) (sym (paired_in z (select (same_key t z) zs) u i).0
      ∙ ap (λ (p : Slot × Slot). p.0) e))

  pub twins-ordered : (x y : Slot) → In {A = Slot × Slot} (x, y) (twins t) → Twins t x y
  unfolding twins Pair
  twins-ordered x y i =
      let r = pair_in (taken_slots t) (taken_ascend t) (x, y) i in
      record { first = taken_in_lem t x r.0; later = taken_in_lem t y r.1; key = r.2; order = r.3 }

  pub twins-all : (x y : Slot) → Twins t x y → In {A = Slot × Slot} (x, y) (twins t)
  unfolding twins Pair
  twins-all x y p = in_pairs (taken_slots t) (taken_ascend t) x y (in_taken t x p.first, in_taken t y p.later, p.key, p.order)

  pub twins-apart : NoRepeat (twins t)
  unfolding twins
  twins-apart = pairs-apart (taken_slots t) (taken_ascend t)

  -- two taken slots with one key are one slot or a pair, in one order or the other
  pub same_or_twins : (a b : Slot) → TakenSlot t a → TakenSlot t b → key_in t a ≡ key_in t b
      → (a ≡ b) ⊎ (In {A = Slot × Slot} (a, b) (twins t) ⊎ In {A = Slot × Slot} (b, a) (twins t))
  same_or_twins a b u v k = go (taken_compare t a b u v)
    where
      go : (a ≡ b) ⊎ (Before a b ⊎ Before b a) → (a ≡ b) ⊎ (In {A = Slot × Slot} (a, b) (twins t) ⊎ In {A = Slot × Slot} (b, a) (twins t))
      go (inl e) = inl e
      go (inr (inl o)) = inr (inl (twins-all a b (record { first = u; later = v; key = k; order = o })))
      go (inr (inr o)) = inr (inr (twins-all b a (record { first = v; later = u; key = sym k; order = o })))
