-- `script::read_all` meets its contract: the run stands behind the parts that were read.
-- Assumes nothing.
use borrow.Enum.Refused.{opened}
use native.Mathlib.Omega.{arith}
use Rattle.script.proofs.Parts.{behind-none, behind-next, not_going, ran, ran_on}
use Rattle.replaying.proofs.Enough.{room_is_enough}
use Rattle.script.proofs.read_all.Goals as goal

pub loop-parts-init : goal.loop-parts-init
loop-parts-init c = behind-none _ _ c.ready-run.ensures

pub returns-in_default : goal.returns-in_default
returns-in_default c =
    ran (room_is_enough 8 _ c.requires.0) c.loop-parts.invariant
    c.read_some-turn.ensures (not_going _ (opened c.in_default.in_default-own.keys2))

pub loop-parts-preserved : goal.loop-parts-preserved
loop-parts-preserved c = behind-next c.loop-parts.invariant c.read_some-turn.ensures c.in-Going.is

pub returns : goal.returns
returns c = ran_on (room_is_enough 8 _ c.requires.0) c.loop-parts.invariant (omega arith)
