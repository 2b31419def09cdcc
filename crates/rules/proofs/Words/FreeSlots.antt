-- The lowest free slot of a bucket: where there is one it is free, and every lower slot of the bucket is taken; where there is
-- none every slot is taken. And how many are taken.
-- Assumes nothing.
use Prim.Native.Nat.{ℕ, ◌+◌, ◌<◌}
use mathlib.Core.Path.{◌≡◌, ap, ◌∙◌}
use mathlib.Core.Bool.{Bool, true, false, not}
use mathlib.Core.List.Memᴰ
use mathlib.Core.List.{◌∷◌, ◌++◌, Memᴰ as In}
use mathlib.Core.Logic.{◌⊎◌, inl, inr}
use mathlib.Core.Option.{none, some}
use native.Mathlib.Omega.{arith}
use borrow.Author.Tests.{not-true, not-false}
use Rattle.rules.specs.Choice.{given, first_of}
use Rattle.rules.specs.Words.{Table, slots, slot_at, slots_in, place_of, is_taken, taken_of, taken}
use Rattle.rules.specs.Placing.{free_slot}
use Rattle.rules.specs.declared.Header.{Header}
use Rattle.rules.specs.declared.Place.{Place}
use Rattle.rules.specs.declared.Slot.{Slot}
use Rattle.rules.proofs.Basics.Lists.{First, first_of-some, first_of-none, given-some, given-none, one, select_length, map_in, Ascending}
use Rattle.rules.proofs.Basics.Lists.{ascending-after, ascending-map, ascending-from}

pub slot-place : (p : Place) (s : Slot) → In s (slots_in p) → place_of s ≡ p
unfolding slots_in slot_at place_of
slot-place p s i = let r = map_in (slot_at p) slots s i in rw r.2

-- the slots of a bucket ascend
abbrev Below : Slot → Slot → Type 0
Below x y = x.slot < y.slot

slots_below : (p : Place) → Ascending Below (slots_in p)
unfolding slots_in slot_at
slots_below p = ascending-map ◌<◌ Below (slot_at p) slots (ascending-from 0 4) (λ x y e. e)

-- the first slot of a bucket that passes a test is its lowest that does
module _ (q : Slot → Bool) (p : Place) where
  pub record LowestPassing (s : Slot) : Type 0 where
    pub inside : In s (slots_in p)
    pub passes : q s ≡ true
    pub lower : (y : Slot) → In y (slots_in p) → y.slot < s.slot → q y ≡ false

  passing_of : (s : Slot) → First (λ (x : Slot). given (q x) x) (slots_in p) s → LowestPassing s
  passing_of s f =
      record {
        inside = rw (← gives.1) f.inside;
        passes = rw (← gives.1) gives.0;
        lower = λ y i l. below y l (Memᴰ.append_cases f.earlier (rw f.split at i));
      }
    where
      gives : (q f.found ≡ true) × (f.found ≡ s)
      gives = given-some (q f.found) f.found s f.gives

      order : Ascending Below (f.earlier ++ (f.found ∷ f.later))
      order = rw f.split at (slots_below p)

      after : (y : Slot) → y.slot < s.slot → (y ≡ f.found) ⊎ In y f.later → ⊥
      after y l (inl e) = let k : y ≡ s = e ∙ gives.1 in omega (arith, ap (λ (z : Slot). z.slot) k)
      after y l (inr i) = omega (arith, ascending-after Below f.earlier f.found f.later order y i, ap (λ (z : Slot). z.slot) gives.1)

      below : (y : Slot) → y.slot < s.slot → In y f.earlier ⊎ In y (f.found ∷ f.later) → q y ≡ false
      below y l (inl i) = given-none (q y) y (f.before y i)
      below y l (inr i) = absurd (after y l (Memᴰ.cases_cons i))

  pub lowest_passing : (s : Slot) → first_of (λ (x : Slot). given (q x) x) (slots_in p) ≡ some s → LowestPassing s
  lowest_passing s e = passing_of s (first_of-some (λ (x : Slot). given (q x) x) (slots_in p) s e)

-- how many slots a token word calls taken, one by one
pub taken_sum : (h : Header) (w : ℕ) → taken_of h w ≡ one (is_taken h w 0) + (one (is_taken h w 1) + (one (is_taken h w 2) + (one (is_taken h w 3) + 0)))
unfolding taken_of
taken_sum h w = rw (select_length, select_length, select_length, select_length)

-- slot s of place p is its lowest free one
pub record Lowest (t : Table) (h : Header) (p : Place) (s : Slot) : Type 0 where
  pub place : place_of s ≡ p
  pub inside : In s (slots_in p)
  pub free : taken t h s ≡ false
  pub lower : (y : Slot) → In y (slots_in p) → y.slot < s.slot → taken t h y ≡ true

module _ (t : Table) (h : Header) (p : Place) where
  pub free-slot : (s : Slot) → free_slot t h p ≡ some s → Lowest t h p s
  unfolding free_slot
  free-slot s e =
      let f = lowest_passing (λ (x : Slot). not (taken t h x)) p s e in
      record {
        place = slot-place p s f.inside;
        inside = f.inside;
        free = not-true (taken t h s) f.passes;
        lower = λ y i l. not-false (taken t h y) (f.lower y i l);
      }

  pub all-taken : free_slot t h p ≡ none → (s : Slot) → In s (slots_in p) → taken t h s ≡ true
  unfolding free_slot
  all-taken e s i =
      not-false (taken t h s)
      (given-none (not (taken t h s)) s (first_of-none (λ (x : Slot). given (not (taken t h x)) x) (slots_in p) e s i))
