-- `collector::ragansils_make` meets its contract.
-- Assumes nothing.
use Rattle.making.specs.Promises.{Made}
use Rattle.collector.proofs.ragansils_make.Goals as goal

pub returns : goal.returns
unfolding Made
returns c = rw c.verdict_number.ensures c.make.ensures
