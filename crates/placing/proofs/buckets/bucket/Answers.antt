-- `placing::buckets::bucket` meets its contract: four records, slot by slot.
-- Assumes nothing.
use Rattle.placing.proofs.Choosing.{records}
use Rattle.placing.proofs.buckets.bucket.Goals as goal

pub returns : goal.returns
returns c =
    records _ _ c.slot_of.ensures.0 c.slot_of-2.ensures.0 c.slot_of-3.ensures.0 c.slot_of-4.ensures.0
    c.item.ensures c.item-2.ensures c.item-3.ensures c.item-4.ensures
