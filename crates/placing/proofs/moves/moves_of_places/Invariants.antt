-- `placing::moves::moves_of_places` meets its contract: the first move of all places is the first of those from i on.
-- Assumes nothing.
use mathlib.Core.Path.{◌≡◌}
use Prim.Native.Nat.{◌-◌}
use lib.ListN.{take}
use Rattle.placing.specs.Search.{place_move, places_move}
use Rattle.rules.proofs.Basics.Along.{along}
use Rattle.placing.proofs.moves.moves_of_places.Given as goal

abbrev pub invariant-loop-i : goal.invariant-loop-i
invariant-loop-i l = places_move l.t l.h l.way (take l.n l.places) ≡ along (place_move l.t l.h l.way) (take l.n l.places) l.i

abbrev pub decreases-loop-i : goal.decreases-loop-i
decreases-loop-i l = l.n - l.i
