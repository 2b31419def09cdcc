-- Word 6 tells its slot: the slot that it names is the one taken slot with that key word.
-- Assumes nothing.
use mathlib.Core.Path.{◌≡◌, refl, sym, ap, ◌∙◌}
use mathlib.Core.List.{Memᴰ as In}
use mathlib.Core.Option.{Option, none, some}
use lib.ListN.{length}
use lib.Dec.{eqb}
use borrow.Author.Tests.{eqb-true, eqb-false}
use Rattle.rules.specs.Choice.{given}
use Rattle.rules.specs.Words.{Table, GoodHeader, header_of, target_of, key_word}
use Rattle.rules.specs.Soundness.{taken_slots, target}
use Rattle.rules.specs.declared.Slot.{Slot}
use Rattle.rules.proofs.Basics.Lists.{first_of-some, first_of-none, given-some, given-none}
use Rattle.rules.proofs.Words.Addresses.{key-word-one}
use Rattle.rules.proofs.Places.PlacesInUse.{slot_by_bucket}
use Rattle.rules.proofs.Tables.Twins.{taken_in_lem}

module _ (t : Table) where
  named_by : Slot → Option Slot
  named_by x = given (eqb (target_of t) (key_word x)) x

  -- the slot that the target is, and what it means that there is none
  pub target-some : (x : Slot) → target t ≡ some x → In x (taken_slots t) × (target_of t ≡ key_word x)
  unfolding target named_by
  target-some x e =
      let f = first_of-some named_by (taken_slots t) x e in
      let r = given-some (eqb (target_of t) (key_word f.found)) f.found x f.gives in
      rw (← r.1) (f.inside, eqb-true _ _ r.0)

  pub target_missed : target t ≡ none → (x : Slot) → In x (taken_slots t) → target_of t ≡ key_word x → ⊥
  unfolding target named_by
  target_missed e x i = eqb-false _ _ (given-none _ x (first_of-none named_by (taken_slots t) e x i))

  pub target_found : GoodHeader (length t) (header_of t) → (x : Slot) → In x (taken_slots t) → target_of t ≡ key_word x → target t ≡ some x
  target_found g x i e = go (target t) refl
    where
      go : (o : Option Slot) → target t ≡ o → o ≡ some x
      go none q = absurd (target_missed q x i e)
      go (some y) q =
          let r = target-some y q in
          let u = (taken_in_lem t x i).used in
          let v = (taken_in_lem t y r.0).used in
          let k = key-word-one y x v.slot u.slot (sym r.1 ∙ e) in
          ap some (slot_by_bucket (header_of t).state (header_of t).c g.state y x v u k.0 k.1)

  pub target_none : ((x : Slot) → In x (taken_slots t) → target_of t ≡ key_word x → ⊥) → target t ≡ none
  target_none d = go (target t) refl
    where
      go : (o : Option Slot) → target t ≡ o → o ≡ none
      go none q = refl
      go (some y) q = let r = target-some y q in absurd (d y r.0 r.1)
