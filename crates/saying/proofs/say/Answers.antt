-- `saying::say` meets its contract.
-- Assumes nothing.
use Rattle.saying.proofs.LinesPut.{said}
use Rattle.saying.proofs.say.Goals as goal

pub returns : goal.returns
returns c = said _ c.say_at.ensures
