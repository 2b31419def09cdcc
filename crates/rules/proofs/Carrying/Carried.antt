-- From one table to another: which items are carried over, which are gone and which are new; and what this makes of a sound table
-- and its map. Every change of a table, made whole or in part, is one of these.
-- Assumes nothing.
use Prim.Native.Nat.{ℕ}
use mathlib.Core.Path.{◌≡◌, sym, ap, ◌∙◌}
use mathlib.Core.List.{Memᴰ as In}
use mathlib.Core.Logic.{◌⊎◌, inl, inr, ⊎_elim}
use mathlib.Core.Option.{some}
use Rattle.rules.specs.Words.{Table, GoodState, header_of, key_in, record_in}
use Rattle.rules.specs.Places.{places_of}
use Rattle.rules.specs.Soundness.{TakenSlot, PlainMap, HasMap}
use Rattle.rules.specs.declared.Place.{Place}
use Rattle.rules.specs.declared.Slot.{Slot}
use Rattle.rules.specs.declared.Record.{Record}
use Rattle.rules.proofs.Places.PlacesInUse.{slot_by_bucket}

-- the item of slot y of t is that of slot z of u: the same words, in a level whose name may be another
pub record Carry (t u : Table) (y z : Slot) : Type 0 where
  pub before : TakenSlot t y
  pub after : TakenSlot u z
  pub bucket : z.bucket ≡ y.bucket
  pub slot : z.slot ≡ y.slot
  pub key : key_in u z ≡ key_in t y
  pub value : record_in u z ≡ record_in t y

-- where the state stays, it is the same slot
pub carry_same : (c : ℕ) (t u : Table) → GoodState c (header_of u).state → header_of u ≡ header_of t → (y z : Slot) → Carry t u y z → z ≡ y
carry_same c t u good header y z k = slot_by_bucket (header_of u).state c good z y k.after.used (rw header k.before.used) k.bucket k.slot

-- every item of t is gone or carried, and every item of u is new or carried
pub record Carried (t u : Table) (Gone New : Slot → Type 0) : Type 0 where
  pub out : (y : Slot) → TakenSlot t y → Gone y ⊎ ((z : Slot) × Carry t u y z)
  pub back : (z : Slot) → TakenSlot u z → New z ⊎ ((y : Slot) × (Gone y → ⊥) × Carry t u y z)

-- the other way: where nothing is new, what was gone is new
pub carried_back : (t u : Table) (Gone : Slot → Type 0) → Carried t u Gone (λ z. ⊥) → Carried u t (λ z. ⊥) Gone
carried_back t u Gone carried = record { out = λ z a. out z (carried.back z a); back = λ y a. back y (carried.out y a) }
  where
    turned : (y z : Slot) → Carry t u y z → Carry u t z y
    turned y z k = record { before = k.after; after = k.before; bucket = sym k.bucket; slot = sym k.slot; key = sym k.key; value = sym k.value }

    out : (z : Slot) → ⊥ ⊎ ((y : Slot) × (Gone y → ⊥) × Carry t u y z) → ⊥ ⊎ ((y : Slot) × Carry u t z y)
    out z (inl n) = absurd n
    out z (inr (y, g, k)) = inr (y, turned y z k)

    back : (y : Slot) → Gone y ⊎ ((z : Slot) × Carry t u y z) → Gone y ⊎ ((z : Slot) × (⊥ → ⊥) × Carry u t z y)
    back y (inl g) = inl g
    back y (inr (z, k)) = inr (z, λ n. n, turned y z k)

-- "no key in two taken slots"
abbrev pub Alone : Table → Type 0
Alone t = (x y : Slot) → TakenSlot t x → TakenSlot t y → key_in t x ≡ key_in t y → x ≡ y

-- "each taken slot in a place of its key"
abbrev pub PlacedAt : Table → Slot → Type 0
PlacedAt t x = (p : Place) × In p (places_of (header_of t) (key_in t x)) × (p.bucket ≡ x.bucket)

abbrev pub Placed : Table → Type 0
Placed t = (x : Slot) → TakenSlot t x → PlacedAt t x

module _ (t u : Table) (Gone New : Slot → Type 0) (carried : Carried t u Gone New) where
  -- no key of those carried stands twice, nor does a new one, nor is a new one carried
  pub carried_alone : (c : ℕ) → GoodState c (header_of u).state
      → ((x y : Slot) → TakenSlot t x → TakenSlot t y → (Gone x → ⊥) → (Gone y → ⊥) → key_in t x ≡ key_in t y → x ≡ y)
      → ((x y : Slot) → New x → New y → x ≡ y)
      → ((x y : Slot) → New x → TakenSlot t y → (Gone y → ⊥) → key_in u x ≡ key_in t y → ⊥)
      → Alone u
  carried_alone c good old new apart x y a b e = go (carried.back x a) (carried.back y b)
    where
      go : New x ⊎ ((w : Slot) × (Gone w → ⊥) × Carry t u w x) → New y ⊎ ((z : Slot) × (Gone z → ⊥) × Carry t u z y) → x ≡ y
      go (inl n) (inl m) = new x y n m
      go (inl n) (inr (z, g, k)) = absurd (apart x z n k.before g (e ∙ k.key))
      go (inr (w, f, l)) (inl m) = absurd (apart y w m l.before f (sym e ∙ l.key))
      go (inr (w, f, l)) (inr (z, g, k)) =
          let same : w ≡ z = old w z l.before k.before f g (sym l.key ∙ e ∙ k.key) in
          slot_by_bucket (header_of u).state c good x y a.used b.used
          (l.bucket ∙ ap (λ (s : Slot). s.bucket) same ∙ sym k.bucket) (l.slot ∙ ap (λ (s : Slot). s.slot) same ∙ sym k.slot)

  -- n has what is new and what is carried, and no more
  pub carried_map : (m n : PlainMap) → HasMap t m
      → ((z : Slot) → TakenSlot u z → New z → n (key_in u z) ≡ some (record_in u z))
      → ((y : Slot) → TakenSlot t y → (Gone y → ⊥) → n (key_in t y) ≡ m (key_in t y))
      → ((key : ℕ) (r : Record) → n key ≡ some r
      → ((z : Slot) × TakenSlot u z × (key_in u z ≡ key) × (record_in u z ≡ r))
      ⊎ ((m key ≡ some r) × ((y : Slot) → TakenSlot t y → key_in t y ≡ key → Gone y → ⊥)))
      → HasMap u n
  carried_map m n has new kept only = record { stands = stands; only = λ key r e. stood key r (only key r e) }
    where
      stands : (z : Slot) → TakenSlot u z → n (key_in u z) ≡ some (record_in u z)
      stands z a =
          ⊎_elim (λ (h : New z). new z a h)
          (λ (h : (y : Slot) × (Gone y → ⊥) × Carry t u y z).
          let k = h.2 in
          ap n k.key ∙ kept h.0 k.before h.1 ∙ has.stands h.0 k.before ∙ ap some (sym k.value))
          (carried.back z a)

      stood : (key : ℕ) (r : Record)
          → ((z : Slot) × TakenSlot u z × (key_in u z ≡ key) × (record_in u z ≡ r))
          ⊎ ((m key ≡ some r) × ((y : Slot) → TakenSlot t y → key_in t y ≡ key → Gone y → ⊥))
          → (z : Slot) × TakenSlot u z × (key_in u z ≡ key) × (record_in u z ≡ r)
      stood key r (inl z) = z
      stood key r (inr (e, left)) =
          let y = has.only key r e in
          ⊎_elim (λ (g : Gone y.0). absurd (left y.0 y.1 y.2 g))
          (λ (h : (z : Slot) × Carry t u y.0 z). (h.0, h.1.after, h.1.key ∙ y.2, h.1.value ∙ y.3))
          (carried.out y.0 y.1)

  -- where the header stays, a carried item stands in its place still
  pub carried_placed : header_of u ≡ header_of t → Placed t → ((z : Slot) → TakenSlot u z → New z → PlacedAt u z) → Placed u
  carried_placed header placed new z a =
      ⊎_elim (λ (n : New z). new z a n)
      (λ (h : (y : Slot) × (Gone y → ⊥) × Carry t u y z).
      let p = placed h.0 h.2.before in
      (p.0, rw (header, h.2.key) p.1, p.2 ∙ sym h.2.bucket))
      (carried.back z a)

  -- where the header stays, a carried item stands in the same slot
  module _ (c : ℕ) (good : GoodState c (header_of u).state) (header : header_of u ≡ header_of t) where
    pub carried_stays : (y : Slot) → TakenSlot t y → (Gone y → ⊥) → TakenSlot u y × (key_in u y ≡ key_in t y) × (record_in u y ≡ record_in t y)
    carried_stays y a left = go (carried.out y a)
      where
        go : Gone y ⊎ ((z : Slot) × Carry t u y z) → TakenSlot u y × (key_in u y ≡ key_in t y) × (record_in u y ≡ record_in t y)
        go (inl g) = absurd (left g)
        go (inr (z, k)) = let e = carry_same c t u good header y z k in (rw e at k.after, rw e at k.key, rw e at k.value)

    pub carried_stood : (z : Slot) → TakenSlot u z → New z ⊎ ((Gone z → ⊥) × TakenSlot t z)
    carried_stood z a = go (carried.back z a)
      where
        go : New z ⊎ ((y : Slot) × (Gone y → ⊥) × Carry t u y z) → New z ⊎ ((Gone z → ⊥) × TakenSlot t z)
        go (inl n) = inl n
        go (inr (y, g, k)) = let e = carry_same c t u good header y z k in inr (rw e (g, k.before))
