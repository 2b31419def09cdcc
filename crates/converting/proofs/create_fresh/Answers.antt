-- `converting::create_fresh` meets its contract.
-- Assumes nothing.
use Rattle.converting.proofs.Putting.{fresh-made}
use Rattle.converting.proofs.create_fresh.Goals as goal

pub returns : goal.returns
returns c = fresh-made _ _ c.requires.0 c.requires.1 _ c.other_form.ensures _ _ c.create.ensures
