-- `overlaying::older_asked` meets its contract.
-- Assumes nothing.
use Rattle.overlaying.proofs.Asking.{near, older_by}
use Rattle.overlaying.proofs.older_asked.Goals as goal

pub lookup_with-requires : goal.lookup_with-requires
lookup_with-requires g c = (c.requires.0, c.hashes.ensures, c.requires.2)

pub older_told-requires : goal.older_told-requires
older_told-requires g c = (near _ _ _ c.lookup_with.ensures.0 c.requires.0 c.lookup_with.ensures.1, c.requires.1)

pub returns : goal.returns
returns g c = older_by _ _ _ c.lookup_with.ensures.0 _ c.older_told.ensures
