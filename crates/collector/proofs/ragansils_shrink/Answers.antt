-- `collector::ragansils_shrink` meets its contract.
-- Assumes nothing.
use Rattle.collector.proofs.ragansils_shrink.Goals as goal

pub returns : goal.returns
returns c = rw c.report.ensures c.shrink.ensures
