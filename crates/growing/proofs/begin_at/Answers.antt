-- `growing::begin_at` meets its contract.
-- Assumes nothing.
use mathlib.Core.Path.{◌≡◌, sym, ◌∙◌}
use mathlib.Core.Bool.{true}
use native.Mathlib.Omega.{arith}
use Rattle.rules.specs.Words.{at_rest}
use Rattle.rules.proofs.Words.States.{state-fits}
use Rattle.listing.proofs.Outcomes.{did_refuse, did_as}
use Rattle.growing.proofs.Growth.{begin-resizing, begin-full, begin-listed}
use Rattle.growing.proofs.begin_at.Goals as goal
use Rattle.growing.proofs.begin_at.Goals.{Else-not-at_rest}

pub returns-then-not-at_rest : goal.returns-then-not-at_rest
returns-then-not-at_rest c = did_as (begin-resizing _ (sym c.at_rest.ensures ∙ c.if-not-at_rest.true)) (did_refuse _ _)

-- past the first test
resting : (c : Else-not-at_rest) → at_rest c.args.h.state ≡ true
resting c = sym c.at_rest.ensures ∙ c.if-not-at_rest.false

pub returns-then-state-h : goal.returns-then-state-h
returns-then-state-h c = did_as (begin-full _ (resting (goal.at.returns-then-state-h c).Else-not-at_rest) c.if-state-h.true) (did_refuse _ _)

pub begun-requires : goal.begun-requires
begun-requires c = (state-fits 20 _ c.requires.1).1

pub restate-requires : goal.restate-requires
restate-requires c = rw c.begun.ensures (c.requires.0, omega (arith, state-fits 20 _ c.requires.1), omega arith)

pub returns : goal.returns
returns c = did_as (begin-listed _ (resting (goal.at.returns c).Else-not-at_rest) c.if-state-h.false c.begun.ensures) c.restate.ensures
