-- `placing::moves::moves_of_bucket` meets its contract: the first move of all slots is the first of those from s on.
-- Assumes nothing.
use mathlib.Core.Path.{◌≡◌}
use Prim.Native.Nat.{◌-◌}
use Rattle.rules.specs.Words.{slots_in}
use Rattle.placing.specs.Search.{item_move, bucket_move}
use Rattle.rules.proofs.Basics.Along.{along}
use Rattle.placing.proofs.moves.moves_of_bucket.Given as goal

abbrev pub invariant-loop-s : goal.invariant-loop-s
invariant-loop-s l = bucket_move l.t l.h l.way l.p l.items ≡ along (item_move l.t l.h l.way l.items) (slots_in l.p) l.s

abbrev pub decreases-loop-s : goal.decreases-loop-s
decreases-loop-s l = 4 - l.s
