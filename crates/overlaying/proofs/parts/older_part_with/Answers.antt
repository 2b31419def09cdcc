-- `overlaying::parts::older_part_with` meets its contract.
-- Assumes nothing.
use Rattle.overlaying.proofs.Memory.{found_by}
use Rattle.overlaying.proofs.parts.older_part_with.Goals as goal

pub lookup_with-requires : goal.lookup_with-requires
lookup_with-requires g c = (c.requires.0, c.hashes.ensures, c.requires.1)

pub returns : goal.returns
returns g c = found_by _ _ _ _ _ c.lookup_with.ensures.0 c.older_part.ensures
