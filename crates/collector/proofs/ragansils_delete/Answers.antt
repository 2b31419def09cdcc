-- `collector::ragansils_delete` meets its contract.
-- Assumes nothing.
use Rattle.collector.proofs.ragansils_delete.Goals as goal

pub returns : goal.returns
returns c = rw c.report.ensures c.delete.ensures
