-- `convert::put_ways` meets its contract.
-- Assumes nothing.
use Rattle.saying.proofs.Puts.{then, put_front}
use Rattle.convert.proofs.Ways.{way_alone, ways_both}
use Rattle.convert.proofs.put_ways.Goals as goal

pub returns-in_default : goal.returns-in_default
returns-in_default c = put_front (rw (way_alone c.convert-there.ensures c.in_default.is) c.put_way-next.ensures.0)

pub returns : goal.returns
returns c = put_front (rw (ways_both c.convert-there.ensures c.in-Ok.is) (then c.put_way-next.ensures.0 c.put_back.ensures))
