-- `ledger::read_all` meets its contract.
-- Assumes nothing.
use borrow.Enum.Refused.{opened}
use Rattle.std.proofs.Common.{refl, arith, rules}
use Rattle.running.proofs.Inputs.{behind-next, not_going, ran, ran_on}
use Rattle.ledger.specs.Parts.{known_in}
use Rattle.ledger.proofs.Parts.{takes, behind-first}
use Rattle.replaying.proofs.Enough.{room_is_enough}
use Rattle.ledger.proofs.read_all.Goals as goal

pub loop-parts-init : goal.loop-parts-init
loop-parts-init c = (refl, refl, omega arith, behind-first c.new-posting.result _ c.new-posting.ensures)

pub returns-in_default : goal.returns-in_default
returns-in_default c = (
  ran takes known_in c.loop-parts.invariant.3 c.read_some-outcome.ensures
      (not_going c.read_some-outcome.result (opened c.in_default.in_default-own.keys2)),
  room_is_enough 8 _ c.requires,
)

pub loop-parts-preserved : goal.loop-parts-preserved
loop-parts-preserved c = (
  search rules,
  search rules,
  omega (arith, c.loop-parts-test.true),
  behind-next takes known_in c.loop-parts.invariant.3 c.read_some-outcome.ensures c.in-Going.is,
)

pub returns : goal.returns
returns c =
    let v = c.loop-parts.invariant in (
      ran_on takes known_in v.3 (omega (arith, c.loop-parts-test.false, v.2)),
      room_is_enough 8 _ c.requires,
    )
