-- `growing::end_at` meets its contract.
-- Assumes nothing.
use mathlib.Core.Path.{◌≡◌, sym, ◌∙◌}
use mathlib.Core.Bool.{false}
use native.Mathlib.Omega.{arith}
use Rattle.rules.specs.Words.{at_rest}
use Rattle.rules.proofs.Words.Headers.{sizes}
use Rattle.listing.proofs.Outcomes.{did_refuse, did_as}
use Rattle.growing.proofs.Growth.{is_nothing, is_there, end-resting, end-taken, end-listed}
use Rattle.growing.proofs.end_at.Goals as goal
use Rattle.growing.proofs.end_at.Goals.{Else-at_rest}

pub returns-then-at_rest : goal.returns-then-at_rest
returns-then-at_rest c = did_as (end-resting _ _ (sym c.at_rest.ensures ∙ c.if-at_rest.true)) (did_refuse _ _)

-- past the first test
resizing : (c : Else-at_rest) → at_rest c.args.h.state ≡ false
resizing c = sym c.at_rest.ensures ∙ c.if-at_rest.false

pub first_item-requires : goal.first_item-requires
first_item-requires c = (c.requires.1, resizing (goal.at.first_item-requires c).Else-at_rest)

pub returns-then-is_some : goal.returns-then-is_some
returns-then-is_some c = did_as (end-taken _ _ c.first_item.ensures.0 (resizing (goal.at.returns-then-is_some c).Else-at_rest) (is_there (sym c.is_some.ensures ∙ c.if-is_some.true)).1) (did_refuse _ _)

pub restate-requires : goal.restate-requires
restate-requires c =
    let z = sizes _ _ c.requires.1 in
    rw c.ended.ensures (c.requires.0, omega (arith, z.most, z.cap), omega arith)

pub returns : goal.returns
returns c = did_as (end-listed _ _ c.first_item.ensures.0 (resizing (goal.at.returns c).Else-at_rest) (is_nothing (sym c.is_some.ensures ∙ c.if-is_some.false)) c.ended.ensures) c.restate.ensures
