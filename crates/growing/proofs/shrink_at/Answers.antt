-- `growing::shrink_at` meets its contract.
-- Assumes nothing.
use mathlib.Core.Path.{◌≡◌, sym, ◌∙◌}
use mathlib.Core.Bool.{true}
use native.Mathlib.Omega.{arith}
use Rattle.rules.specs.Words.{at_rest}
use Rattle.rules.proofs.Words.States.{state-fits}
use Rattle.listing.proofs.Outcomes.{did_refuse, did_as}
use Rattle.growing.proofs.Growth.{shrink-resizing, shrink-small, shrink-listed}
use Rattle.growing.proofs.shrink_at.Goals as goal
use Rattle.growing.proofs.shrink_at.Goals.{Else-not-at_rest}

pub returns-then-not-at_rest : goal.returns-then-not-at_rest
returns-then-not-at_rest c = did_as (shrink-resizing _ (sym c.at_rest.ensures ∙ c.if-not-at_rest.true)) (did_refuse _ _)

-- past the first test
resting : (c : Else-not-at_rest) → at_rest c.args.h.state ≡ true
resting c = sym c.at_rest.ensures ∙ c.if-not-at_rest.false

pub returns-then-state-lt2 : goal.returns-then-state-lt2
returns-then-state-lt2 c = did_as (shrink-small _ (resting (goal.at.returns-then-state-lt2 c).Else-not-at_rest) c.if-state-lt2.true) (did_refuse _ _)

pub shrunk-requires : goal.shrunk-requires
shrunk-requires c = omega (arith, c.if-state-lt2.false)

pub restate-requires : goal.restate-requires
restate-requires c = rw c.shrunk.ensures (c.requires.0, omega (arith, state-fits 20 _ c.requires.1), omega arith)

pub returns : goal.returns
returns c = did_as (shrink-listed _ (resting (goal.at.returns c).Else-not-at_rest) (omega (arith, c.if-state-lt2.false)) c.shrunk.ensures) c.restate.ensures
