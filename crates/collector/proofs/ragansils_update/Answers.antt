-- `collector::ragansils_update` meets its contract.
-- Assumes nothing.
use Rattle.collector.proofs.ragansils_update.Goals as goal

pub returns : goal.returns
returns c = rw c.report.ensures c.update.ensures
