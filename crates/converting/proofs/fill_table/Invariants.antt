-- `converting::fill_table` meets its contract: the items of the levels from the n-th on are left.
-- Assumes nothing.
use Prim.Native.Nat.{◌-◌}
use Rattle.rules.specs.Words.{levels_in_use, slots_of, slots_in_use}
use Rattle.converting.specs.Fillings.{items_in}
use Rattle.converting.proofs.Filling.{Left, slots_along}
use Rattle.converting.proofs.fill_table.Given as goal

abbrev pub invariant-loop-n : goal.invariant-loop-n
invariant-loop-n l = Left l.t l.to l.initial.second (items_in l.t l.h (slots_in_use l.h.state)) l.second (items_in l.t l.h (slots_along slots_of (levels_in_use l.h.state) l.n))

abbrev pub decreases-loop-n : goal.decreases-loop-n
decreases-loop-n l = l.levels - l.n
