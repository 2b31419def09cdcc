-- A placing that was found, and one that was not: by the cases that a test of it leaves.
-- Assumes nothing.
use Prim.Native.Nat.{ℕ}
use mathlib.Core.Path.{◌≡◌, refl, sym, ◌∙◌, subst, subst⁻¹}
use mathlib.Core.List.{[], ◌∷◌}
use mathlib.Core.Logic.{⊎_elim}
use mathlib.Core.Option.{Option, none, some, map, get_or}
use native.Mathlib.Omega.{arith}
use denote.Enum.Declared.{tag_of}
use types.Run.{OneOf}
use lib.ListN.{length}
use Rattle.rules.specs.contracts.Placing.{the_type}
use Rattle.rules.specs.Choice.{first_of}
use Rattle.rules.specs.Words.{Table, GoodHeader, header_of, levels_in_use}
use Rattle.rules.specs.Places.{hashes_of}
use Rattle.rules.specs.Placing.{free_slot, room_in, Candidate, move_of, candidates, placing}
use Rattle.rules.specs.declared.Header.{Header}
use Rattle.rules.specs.declared.Hashes.{Hashes}
use Rattle.rules.specs.declared.Slot.{Slot}
use Rattle.rules.specs.declared.Placing.{Placing}
use Rattle.rules.specs.declared.Placing.TheVariants.{Free, Move, Nowhere}
use Rattle.rules.proofs.Basics.Lists.{first_of-some}
use Rattle.reading.specs.Gates.{Headed}
use Rattle.reading.specs.Levels.{nth_level}
use Rattle.std.specs.Prelude.{Option as Answer, Some, None}
use Rattle.reading.specs.Within.{slot_found}
use Rattle.placing.specs.Search.{optional}

pub nowhere : (p : Placing) → OneOf (2 ∷ []) (tag_of the_type p) → optional p ≡ none
nowhere (Free x) h = absurd (omega arith)
nowhere (Move from to) h = absurd (omega arith)
nowhere Nowhere h = refl

pub somewhere : (p : Placing) → OneOf (0 ∷ 1 ∷ []) (tag_of the_type p) → optional p ≡ some p
somewhere (Free x) h = refl
somewhere (Move from to) h = refl
somewhere Nowhere h = absurd (⊎_elim (λ e. omega arith) (λ e. omega arith) h)

-- a slot that was found, and one that was not
pub not_free : {a : Answer Slot} (o : Option Slot) → a ≡ slot_found o → a ≡ None → o ≡ none
not_free none e k = refl
not_free (some y) e k = absurd (let z : Some y ≡ None = sym e ∙ k in let n : ◌≡◌ {A = ℕ} 0 1 = cc in omega arith)

pub is_free : {a : Answer Slot} {x : Slot} (o : Option Slot) → a ≡ slot_found o → a ≡ Some x → o ≡ some x
is_free none e k = absurd (let z : None ≡ Some _ = sym e ∙ k in let n : ◌≡◌ {A = ℕ} 0 1 = cc in omega arith)
is_free {x = x} (some y) e k = let z : Some y ≡ Some x = sym e ∙ k in cc

pub optional-back : (p : Placing) → get_or (optional p) Nowhere ≡ p
optional-back (Free x) = refl
optional-back (Move from to) = refl
optional-back Nowhere = refl

-- ---- "In the top ..", "If both are full, the same in the bottom.", "If all are full, one move."

module _ (t : Table) (h : Header) where
  -- what one item's move gives is a move, and so is what the search for one finds
  one_move : (c : Candidate) (p : Placing) → OneOf (0 ∷ 2 ∷ []) (tag_of the_type p) → move_of t h c ≡ some p → ⊥
  unfolding move_of
  one_move c p k e = go (first_of (free_slot t h) c.goals) p k e
    where
      go : (o : Option Slot) (p : Placing) → OneOf (0 ∷ 2 ∷ []) (tag_of the_type p) → map (λ (to : Slot). Move c.item to) o ≡ some p → ⊥
      go none p k e = let z : ◌≡◌ {A = ℕ} 0 1 = cc in omega arith
      go (some to) (Free x) k e = let z : ◌≡◌ {A = ℕ} 0 1 = cc in omega arith
      go (some to) (Move a b) k e = ⊎_elim (λ e. omega arith) (λ e. omega arith) k
      go (some to) Nowhere k e = let z : ◌≡◌ {A = ℕ} 0 1 = cc in omega arith

  pub no_move : (x : Hashes) (p : Placing) → OneOf (0 ∷ 2 ∷ []) (tag_of the_type p)
      → optional p ≡ first_of (move_of t h) (candidates t h x) → none ≡ first_of (move_of t h) (candidates t h x)
  no_move x (Free y) k e = let f = first_of-some (move_of t h) (candidates t h x) (Free y) (sym e) in absurd (one_move f.found (Free y) k f.gives)
  no_move x (Move a b) k e = absurd (⊎_elim (λ e. omega arith) (λ e. omega arith) k)
  no_move x Nowhere k e = e

module _ (t : Table) (h : Header) (key : ℕ) {x : Hashes} (d : x ≡ hashes_of h key) where
  -- the first two levels in use are top and bottom
  pub by_top : {y : Slot} → room_in t h x (nth_level h.state 0) ≡ some y → Free y ≡ placing t h key
  unfolding placing levels_in_use
  by_top e = rw (← d, e)

  module _ (n : room_in t h x (nth_level h.state 0) ≡ none) where
    pub by_bottom : {y : Slot} → room_in t h x (nth_level h.state 1) ≡ some y → Free y ≡ placing t h key
    unfolding placing levels_in_use
    by_bottom e = rw (← d, n, e)

    pub by_move : room_in t h x (nth_level h.state 1) ≡ none → (p : Placing) → optional p ≡ first_of (move_of t h) (candidates t h x)
        → p ≡ placing t h key
    unfolding placing levels_in_use
    by_move m p e = rw (← d, n, m, ← e) (sym (optional-back p))

-- ---- the table's own header, read again

module _ {t : Table} {h : Header} (headed : Headed t h) where
  pub own-good : GoodHeader (length t) (header_of t)
  own-good = subst (GoodHeader (length t)) headed.own headed.good

  pub own_move : (x : Hashes) (r : Placing) → optional r ≡ first_of (move_of t (header_of t)) (candidates t (header_of t) x)
      → optional r ≡ first_of (move_of t h) (candidates t h x)
  own_move x r e = subst⁻¹ (λ (g : Header). optional r ≡ first_of (move_of t g) (candidates t g x)) headed.own e
