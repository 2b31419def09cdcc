-- `collector::ragansils_insert` meets its contract.
-- Assumes nothing.
use Rattle.collector.proofs.ragansils_insert.Goals as goal

pub returns : goal.returns
returns c = rw c.report.ensures c.insert.ensures
