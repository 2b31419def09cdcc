-- What becomes of a sound table's keys and map where items are carried over: all of them, all with one more, with one less, or with
-- one in the place of another. Between the two stores of a move one key stands in two slots with equal records.
-- Assumes nothing.
use Prim.Native.Nat.{ℕ}
use mathlib.Core.Path.{◌≡◌, refl, sym, ap, ◌∙◌}
use mathlib.Core.Bool.{Bool, true, false, cond}
use mathlib.Core.Logic.{◌⊎◌, inl, inr, ⊎_elim}
use mathlib.Core.Option.{Option, none, some}
use lib.Dec.{eqb}
use borrow.Author.Tests.{eq-eqb, ne_eqb, eqb-true, eqb-false}
use Rattle.rules.specs.Words.{Table, GoodState, header_of, key_in, record_in}
use Rattle.rules.specs.Soundness.{TakenSlot, PlainMap, HasMap}
use Rattle.rules.specs.Demands.{map_with}
use Rattle.rules.specs.declared.Slot.{Slot}
use Rattle.rules.specs.declared.Record.{Record}
use Rattle.rules.proofs.Basics.Lists.{not_some, some_one}
use Rattle.rules.proofs.Carrying.Carried.{Carry, Carried, Alone, carried_alone, carried_map}

-- ---- a map changed at one key

module _ (m : PlainMap) (key : ℕ) (v : Option Record) where
  with_here : map_with m key v key ≡ v
  with_here = rw (eq-eqb key key refl)

  with_other : (k : ℕ) → (k ≡ key → ⊥) → map_with m key v k ≡ m k
  with_other k n = rw (ne_eqb k key n)

  with_has : (k : ℕ) (r : Record) → map_with m key v k ≡ some r → ((k ≡ key) × (v ≡ some r)) ⊎ ((k ≡ key → ⊥) × (m k ≡ some r))
  with_has k r e = go (eqb k key) refl e
    where
      go : (b : Bool) → eqb k key ≡ b → cond b v (m k) ≡ some r → ((k ≡ key) × (v ≡ some r)) ⊎ ((k ≡ key → ⊥) × (m k ≡ some r))
      go true q e = inl (eqb-true k key q, e)
      go false q e = inr (eqb-false k key q, e)

-- two slots with one key have equal records, where the table has a map
pub map-value : (t : Table) (m : PlainMap) → HasMap t m → (x y : Slot) → TakenSlot t x → TakenSlot t y → key_in t x ≡ key_in t y → record_in t x ≡ record_in t y
map-value t m has x y a b e = some_one (sym (has.stands x a) ∙ ap m e ∙ has.stands y b)

pub map_misses : (t : Table) (m : PlainMap) → HasMap t m → (key : ℕ) → m key ≡ none → (x : Slot) → TakenSlot t x → key_in t x ≡ key → ⊥
map_misses t m has key e x a k = not_some (sym e ∙ ap m (sym k) ∙ has.stands x a)

-- ---- the kinds of change

abbrev pub Nothing : Slot → Type 0
Nothing x = ⊥

abbrev pub Only : Slot → Slot → Type 0
Only x y = y ≡ x

module _ (t u : Table) (c : ℕ) (good : GoodState c (header_of u).state) (m : PlainMap) (has : HasMap t m) where
  -- all items are carried, and no other is there
  module _ (carried : Carried t u Nothing Nothing) where
    pub kept-alone : Alone t → Alone u
    kept-alone alone = carried_alone t u Nothing Nothing carried c good (λ x y a b f g e. alone x y a b e) (λ x y n. absurd n) (λ x y n. absurd n)

    pub kept_map : HasMap u m
    kept_map = carried_map t u Nothing Nothing carried m m has (λ z a n. absurd n) (λ y a g. refl) (λ key r e. inr (e, λ y a k g. g))

  -- slot x is new. What is gone had its key, and nothing that is carried has it: insert, and update
  module _ (Gone : Slot → Type 0) (x : Slot) (carried : Carried t u Gone (Only x)) (here : TakenSlot u x)
      (gone : (y : Slot) → TakenSlot t y → Gone y → key_in t y ≡ key_in u x)
      (left : (y : Slot) → TakenSlot t y → (Gone y → ⊥) → key_in t y ≡ key_in u x → ⊥) where
    pub set_alone : Alone t → Alone u
    set_alone alone =
        carried_alone t u Gone (Only x) carried c good (λ y z a b f g e. alone y z a b e) (λ y z e f. e ∙ sym f)
        (λ z y n a g e. left y a g (sym e ∙ ap (key_in u) n))

    pub set_map : HasMap u (map_with m (key_in u x) (some (record_in u x)))
    set_map =
        carried_map t u Gone (Only x) carried m _ has
        (λ z a n. rw n (with_here m (key_in u x) (some (record_in u x))))
        (λ y a g. with_other m (key_in u x) (some (record_in u x)) (key_in t y) (left y a g))
        (λ key r e. ⊎_elim (λ (h : (key ≡ key_in u x) × (some (record_in u x) ≡ some r)). inl (x, here, sym h.0, some_one h.1))
        (λ (h : (key ≡ key_in u x → ⊥) × (m key ≡ some r)). inr (h.1, λ y a k g. h.0 (sym k ∙ gone y a g)))
        (with_has m (key_in u x) (some (record_in u x)) key r e))

  -- slot x is gone, and no other has its key: delete
  module _ (x : Slot) (carried : Carried t u (Only x) Nothing) (alone : Alone t) (there : TakenSlot t x) where
    pub cleared_alone : Alone u
    cleared_alone = carried_alone t u (Only x) Nothing carried c good (λ y z a b f g e. alone y z a b e) (λ y z n. absurd n) (λ y z n. absurd n)

    pub cleared_map : HasMap u (map_with m (key_in t x) none)
    cleared_map =
        carried_map t u (Only x) Nothing carried m _ has (λ z a n. absurd n)
        (λ y a g. with_other m (key_in t x) none (key_in t y) (λ e. g (alone y x a there e)))
        (λ key r e. ⊎_elim (λ (h : (key ≡ key_in t x) × (none ≡ some r)). not_some h.1)
        (λ (h : (key ≡ key_in t x → ⊥) × (m key ≡ some r)). inr (h.1, λ y a k g. h.0 (sym k ∙ ap (key_in t) g)))
        (with_has m (key_in t x) none key r e))

  -- slot x is new, with a key and record that the map has: the map stays
  pub copied_map : (x : Slot) → Carried t u Nothing (Only x) → m (key_in u x) ≡ some (record_in u x) → HasMap u m
  copied_map x carried e = carried_map t u Nothing (Only x) carried m m has (λ z a n. rw n e) (λ y a g. refl) (λ key r e. inr (e, λ y a k g. g))

  -- slot x is gone, and slot y has its key and record: the map stays; where they were the only two with one key, none is left
  module _ (x y : Slot) (carried : Carried t u (Only x) Nothing) (other : TakenSlot t y) (apart : y ≡ x → ⊥) (same : key_in t y ≡ key_in t x) where
    pub dropped_map : TakenSlot t x → HasMap u m
    dropped_map there = carried_map t u (Only x) Nothing carried m m has (λ z a n. absurd n) (λ z a g. refl) (λ key r e. let z =
        has.only key r e in inl (still key r z.0 z.1 z.2 z.3 (carried.out z.0 z.1)))
      where
        Stands : ℕ → Record → Type 0
        Stands key r = (z : Slot) × TakenSlot u z × (key_in u z ≡ key) × (record_in u z ≡ r)

        instead : Only x y ⊎ ((z : Slot) × Carry t u y z) → Stands (key_in t x) (record_in t x)
        instead (inl g) = absurd (apart g)
        instead (inr (z, k)) = (z, k.after, k.key ∙ same, k.value ∙ map-value t m has y x other there same)

        still : (key : ℕ) (r : Record) (z : Slot) → TakenSlot t z → key_in t z ≡ key → record_in t z ≡ r → Only x z ⊎ ((w : Slot) × Carry t u z w) → Stands key r
        still key r z a k v (inl g) =
            let w = instead (carried.out y other) in
            (w.0, w.1, w.2 ∙ sym (ap (key_in t) g) ∙ k, w.3 ∙ sym (ap (record_in t) g) ∙ v)
        still key r z a k v (inr (w, b)) = (w, b.after, b.key ∙ k, b.value ∙ v)

    -- where they were the only two with one key
    pub dropped_alone : ((a b : Slot) → TakenSlot t a → TakenSlot t b → key_in t a ≡ key_in t b → (a ≡ b) ⊎ (((a ≡ x) × (b ≡ y)) ⊎ ((a ≡ y) × (b ≡ x)))) → Alone u
    dropped_alone only =
        carried_alone t u (Only x) Nothing carried c good
        (λ a b p q f g e. one a b f g (only a b p q e)) (λ a b n. absurd n) (λ a b n. absurd n)
      where
        one : (a b : Slot) → (a ≡ x → ⊥) → (b ≡ x → ⊥) → (a ≡ b) ⊎ (((a ≡ x) × (b ≡ y)) ⊎ ((a ≡ y) × (b ≡ x))) → a ≡ b
        one a b f g (inl e) = e
        one a b f g (inr (inl e)) = absurd (f e.0)
        one a b f g (inr (inr e)) = absurd (g e.1)
