-- `saying::created` meets its contract: its lines are put one after the other.
-- Assumes nothing.
use Rattle.saying.proofs.LinesPut.{created_done, created_denied}
use Rattle.saying.proofs.created.Goals as goal

pub returns-in-Ok : goal.returns-in-Ok
returns-in-Ok c = created_done c.verdict_number.ensures c.in-Ok.is c.put_line-second.ensures.0

pub returns-in-Err : goal.returns-in-Err
returns-in-Err c = created_denied c.verdict_number.ensures c.in-Err.is c.put_line-second.ensures.0 c.put_line.ensures.0
