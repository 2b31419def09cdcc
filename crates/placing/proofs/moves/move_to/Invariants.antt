-- `placing::moves::move_to` meets its contract: the first free slot along all goals is the first along those from i on.
-- Assumes nothing.
use mathlib.Core.Path.{◌≡◌}
use Prim.Native.Nat.{◌-◌}
use lib.ListN.{take}
use Rattle.rules.specs.Choice.{first_of}
use Rattle.rules.specs.Placing.{free_slot}
use Rattle.rules.proofs.Basics.Along.{along}
use Rattle.placing.proofs.moves.move_to.Given as goal

abbrev pub invariant-loop-i : goal.invariant-loop-i
invariant-loop-i l = first_of (free_slot l.t l.h) (take l.n l.goals) ≡ along (free_slot l.t l.h) (take l.n l.goals) l.i

abbrev pub decreases-loop-i : goal.decreases-loop-i
decreases-loop-i l = l.n - l.i
