-- `growing::interim::placed_in` meets its contract: the first that has a place of all slots is the first of those from s on.
-- Assumes nothing.
use Prim.Native.Nat.{◌-◌}
use mathlib.Core.Path.{◌≡◌}
use Rattle.rules.specs.Words.{slots_in}
use Rattle.rules.proofs.Basics.Along.{along}
use Rattle.growing.specs.Interim.{placeable, placeable_in}
use Rattle.growing.proofs.interim.placed_in.Given as goal

abbrev pub invariant-loop-s : goal.invariant-loop-s
invariant-loop-s l = placeable_in l.t l.h l.p ≡ along (placeable l.t l.h) (slots_in l.p) l.s

abbrev pub decreases-loop-s : goal.decreases-loop-s
decreases-loop-s l = 4 - l.s
