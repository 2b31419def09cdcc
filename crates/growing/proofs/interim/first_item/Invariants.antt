-- `growing::interim::first_item` meets its contract.
-- Assumes nothing.
use Prim.Native.Nat.{◌-◌}
use mathlib.Core.Path.{◌≡◌}
use Rattle.growing.proofs.Searches.{found_from, item_at}
use Rattle.growing.proofs.interim.first_item.Given as goal

abbrev pub invariant-loop-i : goal.invariant-loop-i
invariant-loop-i l = found_from l.h (item_at l.t l.h) l.b ≡ found_from l.h (item_at l.t l.h) l.i

abbrev pub decreases-loop-i : goal.decreases-loop-i
decreases-loop-i l = l.m - l.i
