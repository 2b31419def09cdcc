-- "Its map is its taken slots": a sound table has a map, and a table has at most one.
-- Assumes nothing.
use Prim.Native.Nat.{ℕ}
use mathlib.Core.Path.{◌≡◌, refl, sym, ap, ◌∙◌}
use mathlib.Core.Option.{Option, none, some}
use lib.Dec.{eqb}
use borrow.Author.Tests.{eqb-true, eqb-false}
use Rattle.rules.specs.Choice.{given}
use Rattle.rules.specs.Words.{Table, key_in, record_in}
use Rattle.rules.specs.Soundness.{taken_slots, TakenSlot, SoundTable, PlainMap, HasMap, map_of}
use Rattle.rules.specs.Demands.{MapExists}
use Rattle.rules.specs.declared.Slot.{Slot}
use Rattle.rules.specs.declared.Record.{Record}
use Rattle.rules.proofs.Basics.Lists.{first_of-some, first_of-none, given-some, given-none}
use Rattle.rules.proofs.Tables.Twins.{taken_in_lem, in_taken}

module _ (t : Table) where
  -- a taken slot's record, under its key
  abbrev under : ℕ → Slot → Option Record
  under key x = given (eqb (key_in t x) key) (record_in t x)

  -- what the map has is a taken slot's
  map-slot : (key : ℕ) (r : Record) → map_of t key ≡ some r → (x : Slot) × TakenSlot t x × (key_in t x ≡ key) × (record_in t x ≡ r)
  unfolding map_of
  map-slot key r e =
      let f = first_of-some (under key) (taken_slots t) r e in
      let g = given-some (eqb (key_in t f.found) key) (record_in t f.found) r f.gives in
      (f.found, taken_in_lem t f.found f.inside, eqb-true _ _ g.0, g.1)

  map-none : (key : ℕ) → map_of t key ≡ none → (x : Slot) → TakenSlot t x → key_in t x ≡ key → ⊥
  unfolding map_of
  map-none key e x u = eqb-false _ _ (given-none _ (record_in t x) (first_of-none (under key) (taken_slots t) e x (in_taken t x u)))

  -- a key has one record, wherever it stands
  pub record_map : ((x y : Slot) → TakenSlot t x → TakenSlot t y → key_in t x ≡ key_in t y → record_in t x ≡ record_in t y) → HasMap t (map_of t)
  record_map one = record { stands = λ x u. go x u (map_of t (key_in t x)) refl; only = map-slot }
    where
      go : (x : Slot) → TakenSlot t x → (o : Option Record) → map_of t (key_in t x) ≡ o → o ≡ some (record_in t x)
      go x u none q = absurd (map-none (key_in t x) q x u refl)
      go x u (some r) q =
          let y = map-slot (key_in t x) r q in
          ap some (sym y.3 ∙ one y.0 x y.1 u y.2)

  pub sound-map : SoundTable t → HasMap t (map_of t)
  sound-map s = record_map (λ x y a b e. ap (record_in t) (s.alone x y a b e))

  -- two maps of one table agree
  maps_agree : (m n : PlainMap) → HasMap t m → HasMap t n → (key : ℕ) → n key ≡ m key
  maps_agree m n a b key = go (n key) (m key) refl refl
    where
      -- what one has the other has
      both : (p q : PlainMap) → HasMap t p → HasMap t q → (r : Record) → p key ≡ some r → q key ≡ some r
      both p q c d r e =
          let x = c.only key r e in
          ap q (sym x.2) ∙ d.stands x.0 x.1 ∙ ap some x.3

      go : (o v : Option Record) → n key ≡ o → m key ≡ v → o ≡ v
      go (some r) v p q = sym (both n m b a r p) ∙ q
      go none (some r) p q = sym p ∙ both m n a b r q
      go none none p q = refl

pub map_exists : MapExists
map_exists t s = (map_of t, sound-map t s, λ n b. maps_agree t (map_of t) n (sound-map t s) b)
