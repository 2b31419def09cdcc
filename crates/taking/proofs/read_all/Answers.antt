-- `taking::read_all` meets its contract: what takes the parts stands behind those that were read.
-- Assumes nothing.
use borrow.Enum.Refused.{opened}
use Rattle.std.proofs.Common.{arith}
use Rattle.running.specs.Inputs.{known_in}
use Rattle.running.proofs.Inputs.{not_going, behind-none, behind-next, ran, ran_on}
use Rattle.taking.proofs.read_all.Goals as goal

pub loop-parts-init : goal.loop-parts-init
loop-parts-init g c = behind-none g.met.T.Taker.laws (known_in g.T.Taker.has_ended) _

pub returns-in_default : goal.returns-in_default
returns-in_default g c =
    ran g.met.T.Taker.laws (known_in g.T.Taker.has_ended) c.loop-parts.invariant c.read_some-turn.ensures
    (not_going c.read_some-turn.result.outcome (opened c.in_default.in_default-own.keys2))

pub loop-parts-preserved : goal.loop-parts-preserved
loop-parts-preserved g c =
    behind-next g.met.T.Taker.laws (known_in g.T.Taker.has_ended) c.loop-parts.invariant c.read_some-turn.ensures c.in-Going.is

pub returns : goal.returns
returns g c = ran_on g.met.T.Taker.laws (known_in g.T.Taker.has_ended) c.loop-parts.invariant (omega arith)
