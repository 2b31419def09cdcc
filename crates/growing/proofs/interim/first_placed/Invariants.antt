-- `growing::interim::first_placed` meets its contract: the item that the step takes is the first that has a place from bucket i on.
-- Assumes nothing.
use Prim.Native.Nat.{◌-◌}
use mathlib.Core.Path.{◌≡◌}
use Rattle.rules.specs.Calls.{step_item}
use Rattle.growing.specs.Interim.{placeable}
use Rattle.growing.proofs.Searches.{found_from}
use Rattle.growing.proofs.interim.first_placed.Given as goal

abbrev pub invariant-loop-i : goal.invariant-loop-i
invariant-loop-i l = step_item l.t l.h l.b ≡ found_from l.h (placeable l.t l.h) l.i

abbrev pub decreases-loop-i : goal.decreases-loop-i
decreases-loop-i l = l.m - l.i
