-- The place that a placing chooses in a level has no more taken slots than the other, and is the first on a tie; its lowest
-- free slot is taken. No theorem about maps sees this.
-- Assumes nothing.
use Prim.Native.Nat.{ℕ, ◌≤◌, ◌<◌}
use mathlib.Core.Path.{◌≡◌, refl, ap, ◌∙◌}
use mathlib.Core.Bool.{Bool, true, false, cond}
use mathlib.Core.Logic.{◌⊎◌, inl, inr}
use mathlib.Core.Option.{Option, none, some, map, get_or}
use native.Mathlib.Omega.{arith}
use borrow.Author.Tests.{ltb-true, ltb-false}
use Rattle.rules.specs.Choice.{or_else, first_of}
use Rattle.rules.specs.Words.{Table, top_of, bottom_of, place_of}
use Rattle.rules.specs.Places.{hashes_of, first_place, second_place}
use Rattle.rules.specs.Placing.{taken_in, free_slot, fewer, emptier, room_in, Candidate, candidates, move_of, placing}
use Rattle.rules.specs.declared.Header.{Header}
use Rattle.rules.specs.declared.Level.{Level}
use Rattle.rules.specs.declared.Hashes.{Hashes}
use Rattle.rules.specs.declared.Slot.{Slot}
use Rattle.rules.specs.declared.Placing.{Placing}
use Rattle.rules.specs.declared.Placing.TheVariants.{Free, Move, Nowhere}
use Rattle.rules.proofs.Basics.Lists.{first_of-some, not_some}
use Rattle.rules.proofs.Words.FreeSlots.{Lowest, free-slot}

-- slot s was chosen in level l for a key with hashes x
pub record Chosen (t : Table) (h : Header) (x : Hashes) (l : Level) (s : Slot) : Type 0 where
  pub among : (place_of s ≡ first_place x l) ⊎ (place_of s ≡ second_place x l)
  pub no_more_than_first : taken_in t h (place_of s) ≤ taken_in t h (first_place x l)
  pub no_more_than_second : taken_in t h (place_of s) ≤ taken_in t h (second_place x l)
  pub first_on_tie : taken_in t h (first_place x l) ≡ taken_in t h (second_place x l) → place_of s ≡ first_place x l
  pub lowest : Lowest t h (place_of s) s

module _ (t : Table) (h : Header) where
  room_chosen : (x : Hashes) (l : Level) (s : Slot) → room_in t h x l ≡ some s → Chosen t h x l s
  unfolding room_in emptier fewer
  room_chosen x l s e = go (fewer t h (second_place x l) (first_place x l)) refl e
    where
      go : (b : Bool) → fewer t h (second_place x l) (first_place x l) ≡ b → free_slot t h (cond b (second_place x l) (first_place x l)) ≡ some s → Chosen t h x l s
      go true q e =
          let f = free-slot t h (second_place x l) s e in
          let less : taken_in t h (second_place x l) < taken_in t h (first_place x l) = ltb-true _ _ q in
          record {
            among = inr f.place;
            no_more_than_first = rw f.place (omega arith);
            no_more_than_second = rw f.place (omega arith);
            first_on_tie = λ tie. absurd (omega arith);
            lowest = rw f.place f;
          }
      go false q e =
          let f = free-slot t h (first_place x l) s e in
          let most : taken_in t h (first_place x l) ≤ taken_in t h (second_place x l) = ltb-false _ _ q in
          record {
            among = inl f.place;
            no_more_than_first = rw f.place (omega arith);
            no_more_than_second = rw f.place (omega arith);
            first_on_tie = λ tie. f.place;
            lowest = rw f.place f;
          }

  -- a candidate that moves gives a move
  moves-only : (c : Candidate) (s : Slot) → move_of t h c ≡ some (Free s) → ⊥
  unfolding move_of
  moves-only c s e = go (first_of (free_slot t h) c.goals) e
    where
      go : (o : Option Slot) → map (λ (to : Slot). Move c.item to) o ≡ some (Free s) → ⊥
      go none e = not_some e
      go (some to) e = let z : ◌≡◌ {A = ℕ} 0 1 = cc in omega arith

  -- where a placing is a free slot, it was chosen in the top, or in the bottom where the top has no room
  pub free_chosen : (key : ℕ) (s : Slot) → placing t h key ≡ Free s
      → Chosen t h (hashes_of h key) (top_of h.state) s
      ⊎ ((room_in t h (hashes_of h key) (top_of h.state) ≡ none) × Chosen t h (hashes_of h key) (bottom_of h.state) s)
  unfolding placing
  free_chosen key s e = go (room_in t h (hashes_of h key) (top_of h.state)) (room_in t h (hashes_of h key) (bottom_of h.state))
      (first_of (move_of t h) (candidates t h (hashes_of h key))) refl refl refl e
    where
      go : (a b : Option Slot) (c : Option Placing) → room_in t h (hashes_of h key) (top_of h.state) ≡ a
          → room_in t h (hashes_of h key) (bottom_of h.state) ≡ b → first_of (move_of t h) (candidates t h (hashes_of h key)) ≡ c
          → get_or (or_else (map Free a) (or_else (map Free b) c)) Nowhere ≡ Free s
          → Chosen t h (hashes_of h key) (top_of h.state) s
          ⊎ ((room_in t h (hashes_of h key) (top_of h.state) ≡ none) × Chosen t h (hashes_of h key) (bottom_of h.state) s)
      go (some x) b c p q r e = let k : x ≡ s = cc in inl (room_chosen _ _ s (p ∙ ap some k))
      go none (some x) c p q r e = let k : x ≡ s = cc in inr (p, room_chosen _ _ s (q ∙ ap some k))
      go none none none p q r e = absurd (let z : ◌≡◌ {A = ℕ} 0 1 = cc in omega arith)
      go none none (some x) p q r e =
          let f = first_of-some (move_of t h) (candidates t h (hashes_of h key)) x r in
          absurd (moves-only f.found s (f.gives ∙ ap some e))
