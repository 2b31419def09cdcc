-- `overlaying::newer_asked` meets its contract.
-- Assumes nothing.
use Rattle.overlaying.proofs.Asking.{near, newer_by}
use Rattle.overlaying.proofs.newer_asked.Goals as goal

pub lookup_with-requires : goal.lookup_with-requires
lookup_with-requires g c = (c.requires.0, c.hashes.ensures, c.requires.2)

pub newer_told-requires : goal.newer_told-requires
newer_told-requires g c = (near _ _ _ c.lookup_with.ensures.0 c.requires.0 c.lookup_with.ensures.1, c.requires.1)

pub returns : goal.returns
returns g c = newer_by _ _ _ c.lookup_with.ensures.0 _ c.newer_told.ensures
