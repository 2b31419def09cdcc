-- `placing::one_move` meets its contract.
-- Assumes nothing.
use borrow.Enum.Refused.{opened}
use Rattle.placing.proofs.Placings.{own-good, own_move, no_move}
use Rattle.placing.proofs.one_move.Goals as goal

pub moving-found-requires : goal.moving-found-requires
moving-found-requires c = own-good c.requires

pub returns-in-Move : goal.returns-in-Move
returns-in-Move c =
    let q = c.in-Move.is in
    (rw q at (own_move c.requires _ c.moving-found.result c.moving-found.ensures.0), rw q at c.moving-found.ensures.1)

pub returns : goal.returns
returns c =
    let m = c.moving-found in
    (no_move _ _ _ m.result (opened c.in_default.in_default-own.keys2) (own_move c.requires _ m.result m.ensures.0), tt)
