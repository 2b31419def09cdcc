-- `reading::places::both_places` meets its contract.
-- Assumes nothing.
use mathlib.Core.Path.{◌∙◌}
use native.Mathlib.Omega.{arith}
use Rattle.reading.proofs.Placed.{same, apart}
use Rattle.reading.proofs.places.both_places.Goals as goal

pub returns-then-first-second : goal.returns-then-first-second
returns-then-first-second c = (c.one_place.ensures.0 ∙ same _ _ c.place-first.ensures.0 c.place-second.ensures.0 c.if-first-second.true, c.one_place.ensures.1)

pub returns : goal.returns
returns c = (apart _ _ c.place-first.ensures.0 c.place-second.ensures.0 c.if-first-second.false, omega arith)
