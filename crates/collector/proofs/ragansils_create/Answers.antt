-- `collector::ragansils_create` meets its contract.
-- Assumes nothing.
use Rattle.making.specs.Promises.{Created}
use Rattle.collector.proofs.ragansils_create.Goals as goal

pub returns : goal.returns
unfolding Created
returns c = rw c.verdict_number.ensures c.create.ensures
