-- `growing::step_at` meets its contract.
-- Assumes nothing.
use mathlib.Core.Path.{◌≡◌, sym, ◌∙◌}
use mathlib.Core.Bool.{false}
use mathlib.Core.List.{head?}
use mathlib.Core.Option.{some}
use Rattle.rules.specs.Words.{at_rest}
use Rattle.rules.specs.Calls.{items_from}
use Rattle.rules.proofs.Words.Headers.{header-state}
use Rattle.growing.proofs.Searches.{first_in_level}
use Rattle.growing.proofs.Growth.{nothing}
use Rattle.growing.proofs.Stepping.{item-some, step-resting, step-empty, did_on, did_step_refuse}
use Rattle.growing.proofs.step_at.Goals as goal
use Rattle.growing.proofs.step_at.Goals.{Else-at_rest, In-Some}

pub returns-then-at_rest : goal.returns-then-at_rest
returns-then-at_rest c = did_step_refuse _ _ _ _ (step-resting _ _ _ (sym c.at_rest.ensures ∙ c.if-at_rest.true)) c.unplaced.ensures

-- past the first test
resizing : (c : Else-at_rest) → at_rest c.args.h.state ≡ false
resizing c = sym c.at_rest.ensures ∙ c.if-at_rest.false

pub first_item-requires : goal.first_item-requires
first_item-requires c = (c.requires.1.good, resizing (goal.at.first_item-requires c).Else-at_rest)

pub returns-in_default : goal.returns-in_default
returns-in_default c =
    let none = nothing (items_from _ _ _) (sym c.first_item.ensures.0 ∙ c.in_default.is) in
    did_step_refuse _ _ _ _ (step-empty _ _ _ (resizing (goal.at.returns-in_default c).Else-at_rest) none)
    c.unplaced-in_default.ensures

-- the first item
first : (c : In-Some) →
    head? (items_from c.args.t.now c.args.h c.args.b) ≡ some c.in-Some.first
first c = item-some _ (sym c.first_item.ensures.0 ∙ c.in-Some.is)

pub bucket_in_level-requires : goal.bucket_in_level-requires
bucket_in_level-requires c = (header-state _ _ c.requires.1.good, resizing (goal.at.bucket_in_level-requires c).Else-at_rest, first_in_level _ _ _ _ (first (goal.at.bucket_in_level-requires c).In-Some))

pub step_item-requires : goal.step_item-requires
step_item-requires c = (c.requires.0, c.requires.1, resizing (goal.at.step_item-requires c).Else-at_rest)

pub returns : goal.returns
returns c = did_on _ _ _ (resizing (goal.at.returns c).Else-at_rest) _ (first (goal.at.returns c).In-Some) c.bucket_in_level.ensures c.step_item.ensures
