-- `changing::insert_by_move` meets its contract.
-- Assumes nothing.
use mathlib.Core.Path.{refl}
use native.Mathlib.Omega.{arith}
use Rattle.listing.specs.Listing.{Takes}
use Rattle.changing.proofs.insert_by_move.Goals as goal

pub list_placing-requires : goal.list_placing-requires
unfolding Takes
list_placing-requires c = (omega arith, c.requires.1, (refl, c.requires.2), c.requires.3)
