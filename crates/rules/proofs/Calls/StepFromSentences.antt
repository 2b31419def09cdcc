-- `step_from` beside the step: with 0 it is the step, and so it is where no interim item stands before its start; a start past the level;
-- and what it tells where it is refused. On every table.
-- Assumes nothing.
use Prim.Native.Nat.{ℕ}
use mathlib.Core.Path.{◌≡◌, refl, sym, ◌∙◌}
use mathlib.Core.Bool.{true}
use native.Mathlib.Omega.{arith}
use lib.ListN.{length}
use lib.Dec.{leb}
use borrow.Author.Tests.{le-leb}
use Rattle.rules.specs.Words.{Table, header_of}
use Rattle.rules.specs.Answers.{stepped_from_means}
use Rattle.rules.specs.Calls.{interim_items, interim_bucket, items_from, step_item, step_tests, step_of, step_from, step, outcome}
use Rattle.rules.specs.Results.{change_result, step_from_result, step_result}
use Rattle.rules.specs.Demands.{InterimItem, InterimFrom}
use Rattle.rules.specs.StepFromSentences.{StepFromIsACall, ZeroIsTheStep, RefusedTellsZero, PastTheLevel, AsTheStep}
use Rattle.rules.specs.declared.Slot.{Slot}
use Rattle.rules.proofs.Basics.Lists.{select-every}
use Rattle.rules.proofs.Tables.Interims.{interim-item, bucket-counted, interim-size, items_all, from_zero}
use Rattle.rules.proofs.Calls.StepSentences.{eleven_from_exactly}

pub step_from_is_a_call : StepFromIsACall
unfolding step_from_result change_result
step_from_is_a_call t b l = (refl, refl)

pub zero_is_the_step : ZeroIsTheStep
unfolding step_result
zero_is_the_step t l = (refl, refl, refl, from_zero t)

pub refused_tells_zero : RefusedTellsZero
unfolding step_from_result stepped_from_means
refused_tells_zero t b l r e = rw e

pub past_the_level : PastTheLevel
past_the_level t n b may past =
    (eleven_from_exactly t n b).1 (may, λ x u. let c = bucket-counted t x u.item in omega (arith, interim-size t, u.start, c.0, c.1, past))

-- no interim item stands before bucket b
module _ (t : Table) (b : ℕ) (onward : (x : Slot) → InterimItem t x → InterimFrom t b x) where
  all_from : items_from t (header_of t) b ≡ items_from t (header_of t) 0
  unfolding items_from
  all_from =
      select-every _ (interim_items t (header_of t)) (λ x i. started x ((interim-item t x).0 i)) ∙ sym (items_all t (header_of t))
    where
      started : (x : Slot) → InterimItem t x → leb b (interim_bucket (header_of t).state x) ≡ true
      started x item = le-leb b (interim_bucket (header_of t).state x) (omega (arith, interim-size t, (bucket-counted t x item).0, (onward x item).start))

  same_outcome : (n : ℕ) → outcome t n (step_from b) ≡ outcome t n step
  unfolding outcome step_of step_tests step_item
  same_outcome n = rw all_from

  same_item : step_item t (header_of t) b ≡ step_item t (header_of t) 0
  unfolding step_item
  same_item = rw all_from

pub as_the_step : AsTheStep
unfolding step_from_result
as_the_step t b l onward = (same_outcome t b onward (length l), rw (same_outcome t b onward (length l), same_item t b onward))
