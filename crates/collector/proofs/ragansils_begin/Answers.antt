-- `collector::ragansils_begin` meets its contract.
-- Assumes nothing.
use Rattle.collector.proofs.ragansils_begin.Goals as goal

pub returns : goal.returns
returns c = rw c.report.ensures c.begin.ensures
