-- `querying::queried` meets its contract.
-- Assumes nothing.
use mathlib.Core.Path.{◌∙◌}
use Rattle.querying.proofs.Answered.{told-alike}
use Rattle.querying.proofs.queried.Goals as goal

pub lookup_with-requires : goal.lookup_with-requires
lookup_with-requires g c = (c.requires.0, c.hashes.ensures, c.requires.1)

pub returns : goal.returns
returns g c = c.told.ensures ∙ told-alike _ c.lookup_with.ensures.0
