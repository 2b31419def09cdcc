-- `collector::ragansils_asked` meets its contract.
-- Assumes nothing.
use Rattle.collector.proofs.Tellings.{asked_hit, asked_missed}
use Rattle.collector.proofs.ragansils_asked.Goals as goal

pub returns-in-Ok : goal.returns-in-Ok
returns-in-Ok c = asked_hit c.asked.ensures c.in-Ok.is c.side_number.ensures

pub returns-in-Err : goal.returns-in-Err
returns-in-Err c = asked_missed c.asked.ensures c.in-Err.is c.side_number-in-Err.ensures c.number.ensures
