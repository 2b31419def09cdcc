-- `placing::moves::moves_of_level` meets its contract.
-- Assumes nothing.
use mathlib.Core.Path.{ap, ◌∙◌}
use Rattle.placing.specs.Search.{places_move}
use Rattle.placing.proofs.Goals.{level_places}
use Rattle.placing.proofs.moves.moves_of_level.Goals as goal

pub moves_of_places-requires : goal.moves_of_places-requires
moves_of_places-requires c =
    let a = c.args in
    let e = c.both_places-places.ensures in
    (e.1, λ p i. level_places a.t.now a.l c.requires.0 a.x p (rw e.0 at i), c.requires.1)

pub returns : goal.returns
returns c =
    let e = c.moves_of_places.ensures in
    let a = c.args in
    (e.0 ∙ ap (places_move a.t.now a.h a.way) c.both_places-places.ensures.0, e.1)
