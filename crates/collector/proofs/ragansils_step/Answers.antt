-- `collector::ragansils_step` meets its contract: it is the step from the first bucket on, without the bucket.
-- Assumes nothing.
use Rattle.collector.proofs.Tellings.{step-told}
use Rattle.collector.proofs.ragansils_step.Goals as goal

pub returns : goal.returns
returns c = step-told _ c.report_step-told.ensures
