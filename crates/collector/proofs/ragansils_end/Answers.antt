-- `collector::ragansils_end` meets its contract.
-- Assumes nothing.
use Rattle.collector.proofs.ragansils_end.Goals as goal

pub returns : goal.returns
returns c = rw c.report.ensures c.end.ensures
