-- A growth step's answer, without its placing, is that of the call step; and of the step from a bucket on, its stores and its bucket are left.
-- Assumes nothing.
use Prim.Native.Nat.{ℕ}
use mathlib.Core.Path.{◌≡◌, ap, ◌∙◌}
use mathlib.Core.List.{List}
use Rattle.rules.specs.Words.{Table}
use Rattle.rules.specs.Answers.{change_means, gone_on_means}
use Rattle.rules.specs.Calls.{step}
use Rattle.rules.specs.Results.{step_from_result, step_result}
use Rattle.rules.specs.declared.Stepped.{Stepped}
use Rattle.rules.specs.declared.SteppedFrom.{SteppedFrom}
use Rattle.rules.proofs.Calls.Meanings.{stepped-one, stepped-from-one}
use Rattle.rules.proofs.Calls.StepPlacing.{step_is_a_call}
use Rattle.listing.specs.Promises.{Changed, StepTaken, StepTakenFrom, WentOnBy}

pub step-changes : {t u : Table} {l m : List ℕ} {s : Stepped} → StepTaken t l s u m → Changed step t l s.change u m
step-changes {t} {u} {l} {m} {s} d =
    let call = step_is_a_call t l in
    let same : s ≡ (step_result t l).0 = stepped-one s (step_result t l).0 d.answer in
    record { answer = ap (λ (x : Stepped). change_means x.change) same ∙ ap change_means call.0; table = d.table; list = d.list ∙ call.1 }

pub step_went_on : {b : ℕ} {t u : Table} {l m : List ℕ} {s : SteppedFrom} → StepTakenFrom b t l s u m → WentOnBy b t l (gone_on_means s) u m
step_went_on {b} {t} {l = l} {s = s} d =
    record { answer = ap gone_on_means (stepped-from-one s (step_from_result t b l).0 d.answer); table = d.table; list = d.list }
