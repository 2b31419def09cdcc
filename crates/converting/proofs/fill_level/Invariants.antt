-- `converting::fill_level` meets its contract: the items of the buckets from the i-th on are left.
-- Assumes nothing.
use Prim.Native.Nat.{◌-◌}
use Rattle.rules.specs.Words.{slots_in, slots_of}
use Rattle.converting.specs.Fillings.{items_in}
use Rattle.converting.proofs.Filling.{Left, slots_along, places_on}
use Rattle.converting.proofs.fill_level.Given as goal

abbrev pub invariant-loop-i : goal.invariant-loop-i
invariant-loop-i l = Left l.t l.to l.initial.second (items_in l.t l.h (slots_of l.l)) l.second (items_in l.t l.h (slots_along slots_in (places_on l.l l.size) l.i))

abbrev pub decreases-loop-i : goal.decreases-loop-i
decreases-loop-i l = l.size - l.i
