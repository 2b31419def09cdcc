-- `recovering::target::home_of` meets its contract: the first level of all that has the bucket is the first from the n-th on.
-- Assumes nothing.
use Prim.Native.Nat.{◌-◌}
use mathlib.Core.Path.{◌≡◌}
use Rattle.rules.specs.Words.{levels_in_use}
use Rattle.rules.proofs.Basics.Along.{along}
use Rattle.recovering.specs.Found.{home_of}
use Rattle.recovering.proofs.Word6.{tried}
use Rattle.recovering.proofs.target.home_of.Given as goal

abbrev pub invariant-loop-n : goal.invariant-loop-n
invariant-loop-n l = home_of l.s l.j ≡ along (tried l.s l.j) (levels_in_use l.s) l.n

abbrev pub decreases-loop-n : goal.decreases-loop-n
decreases-loop-n l = l.count - l.n
