-- `collector::ragansils_recover` meets its contract.
-- Assumes nothing.
use Rattle.collector.proofs.ragansils_recover.Goals as goal

pub returns : goal.returns
returns c = rw c.report.ensures c.recover.ensures
