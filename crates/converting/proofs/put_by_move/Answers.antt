-- `converting::put_by_move` meets its contract.
-- Assumes nothing.
use mathlib.Core.Path.{refl}
use native.Mathlib.Omega.{arith}
use Rattle.rules.proofs.Words.Headers.{table-small}
use Rattle.converting.proofs.Putting.{put_moving}
use Rattle.converting.proofs.put_by_move.Goals as goal

pub list_placing-stores-requires : goal.list_placing-stores-requires
list_placing-stores-requires c = let g = c.requires in (omega arith, table-small _ _ g.0.headed.good, g.2, g.3)

pub returns : goal.returns
returns c =
    let g = c.requires in
    put_moving _ _ _ _ g.0 _ g.1 _ g.2 _ refl _ _ c.list_placing-stores.ensures.0 c.list_placing-stores.ensures.1 _ _ _ c.make.ensures
