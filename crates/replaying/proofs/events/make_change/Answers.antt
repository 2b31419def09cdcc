-- `replaying::events::make_change` meets its contract.
-- Assumes nothing.
use Rattle.making.specs.Promises.{Made}
use Rattle.replaying.proofs.events.make_change.Goals as goal

pub returns : goal.returns
unfolding Made
returns c = record { answer = c.answer.ensures; table = rw (c.kept.ensures, c.reported.ensures) at c.make.ensures.0.table }
