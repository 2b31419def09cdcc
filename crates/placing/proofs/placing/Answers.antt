-- `placing::placing` meets its contract: room in the top, else in the bottom, else a move.
-- Assumes nothing.
use native.Mathlib.Omega.{arith}
use Rattle.rules.proofs.Calls.Meanings.{placing-tells}
use Rattle.placing.proofs.Goals.{room-asked}
use Rattle.placing.proofs.Placings.{not_free, is_free, by_top, by_bottom, by_move}
use Rattle.placing.proofs.placing.Goals as goal

pub room-requires : goal.room-requires
room-requires c = room-asked c.requires.0 0 (omega arith)

pub returns-in-Some : goal.returns-in-Some
returns-in-Some c = (placing-tells (by_top _ _ _ c.requires.1 (is_free _ c.room.ensures.0 c.in-Some.is)), c.in-Some.ensures.1)

pub room-requires-2 : goal.room-requires-2
room-requires-2 c = room-asked c.requires.0 1 (omega arith)

pub returns-in-Some-room : goal.returns-in-Some-room
returns-in-Some-room c =
    let n = not_free _ c.room.ensures.0 c.in_default.is in
    (placing-tells (by_bottom _ _ _ c.requires.1 n (is_free _ c.room-2.ensures.0 c.in-Some-room.is)), c.in-Some-room.ensures.1)

pub returns : goal.returns
returns c =
    let n = not_free _ c.room.ensures.0 c.in_default.is in
    let m = not_free _ c.room-2.ensures.0 c.in_default-room.is in
    (placing-tells (by_move _ _ _ c.requires.1 n m c.one_move.result c.one_move.ensures.0), c.one_move.ensures.1)
