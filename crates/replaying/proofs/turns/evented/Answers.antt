-- `replaying::turns::evented` meets its contract.
-- Assumes nothing.
use Rattle.replaying.proofs.Taken.{event_taken}
use Rattle.replaying.proofs.turns.evented.Goals as goal

pub returns : goal.returns
returns c = event_taken c.args.p _ _ c.least-lent.ensures _ _ c.event-answer.ensures c.answered.ensures
