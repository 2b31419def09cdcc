-- `convert::put_back` meets its contract.
-- Assumes nothing.
use Rattle.convert.proofs.put_back.Goals as goal

pub returns : goal.returns
returns c = rw (← c.convert-back.ensures.answer) c.put_way.ensures.0
