-- step's answer: it is that of the call step, with the placing of the item that it takes where it is accepted, and no
-- placing where it is refused.
-- Assumes nothing.
use mathlib.Core.Path.{◌≡◌, refl}
use mathlib.Core.List.{[], ◌∷◌}
use lib.ListN.{length}
use borrow.Author.Tests.{eqb-false}
use Rattle.rules.specs.Words.{Table, header_of, key_in}
use Rattle.rules.specs.Placing.{placing}
use Rattle.rules.specs.Answers.{number_of, stepped_means}
use Rattle.rules.specs.Calls.{Outcome, refused, listed, step, step_item, outcome}
use Rattle.rules.specs.Results.{change_of, change_result, step_placing, step_from_result, step_result}
use Rattle.rules.specs.Demands.{InterimItem, FirstWithPlace, StepIsACall}
use Rattle.rules.specs.declared.Slot.{Slot}
use Rattle.rules.specs.declared.Stepped.{Stepped}
use Rattle.rules.proofs.Calls.Meanings.{refusal-number}
use Rattle.rules.proofs.Tables.Interims.{first-item, first-from_zero}

module _ (t : Table) where
  -- what a step with an outcome answers
  abbrev answer : Outcome → Stepped
  answer o = record { change = change_of o; placing = step_placing t (header_of t) o (step_item t (header_of t) 0) }

  refused_bare : (o : Outcome) → ((stepped_means (answer o)).number ≡ 0 → ⊥) → (stepped_means (answer o)).values ≡ 0 ∷ []
  unfolding stepped_means
  refused_bare (refused r) n = refl
  refused_bare (listed xs) n = absurd (n refl)

  tells-placing : (o : Outcome) → (stepped_means (answer o)).number ≡ 0 → (x : Slot) → FirstWithPlace t (InterimItem t) x
      → (answer o).placing ≡ placing t (header_of t) (key_in t x)
  unfolding stepped_means
  tells-placing (refused r) e x f = absurd (eqb-false (number_of r) 0 (refusal-number r) e)
  tells-placing (listed xs) e x f = rw (first-item t 0 x (first-from_zero t x f))

pub step_is_a_call : StepIsACall
unfolding step_result step_from_result change_result
step_is_a_call t l = (refl, refl, refused_bare t (outcome t (length l) step), tells-placing t (outcome t (length l) step))
