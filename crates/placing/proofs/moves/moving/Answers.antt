-- `placing::moves::moving` meets its contract.
-- Assumes nothing.
use Rattle.rules.proofs.Words.Headers.{header-fits}
use Rattle.placing.proofs.moves.moving.Goals as goal

pub decode-requires : goal.decode-requires
decode-requires c = header-fits _ _ c.requires

pub first_move-requires : goal.first_move-requires
first_move-requires c = rw c.decode.ensures c.requires

pub returns : goal.returns
returns c = rw c.decode.ensures at c.first_move.ensures
