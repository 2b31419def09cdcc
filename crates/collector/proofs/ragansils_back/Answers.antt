-- `collector::ragansils_back` meets its contract.
-- Assumes nothing.
use Rattle.collector.proofs.ragansils_back.Goals as goal

pub returns : goal.returns
returns c = rw c.report.ensures c.back.ensures
