-- `placing::room::room` meets its contract: nothing where both places are full, else the free slot of the emptier one.
-- Assumes nothing.
use mathlib.Core.Path.{ap, ◌∙◌}
use Rattle.reading.specs.Within.{slot_found}
use Rattle.placing.proofs.Choosing.{room_chosen, both_full}
use Rattle.placing.proofs.room.room.Goals as goal

pub returns-then-both_full : goal.returns-then-both_full
returns-then-both_full c =
    let first = c.place_in_use-first.ensures.0 in
    let second = c.place_in_use-second.ensures.0 in
    (both_full _ _ _ _ first second c.token.ensures c.token-2.ensures c.both_full.ensures c.if-both_full.true, tt)

pub returns : goal.returns
returns c =
    let e = c.free_slot.ensures in
    (e.0 ∙ ap slot_found (room_chosen _ _ _ _ c.place_in_use-first.ensures.0 c.place_in_use-second.ensures.0 c.emptier.ensures.0), e.1)
