-- `placing::buckets::item` meets its contract.
-- Assumes nothing.
use Rattle.placing.specs.Buckets.{item_in}
use Rattle.placing.proofs.buckets.item.Goals as goal

pub returns : goal.returns
unfolding item_in
returns c = rw (c.key_at-key.ensures, c.record_at-record.ensures)
