-- `scanning::items::scan_table` meets its contract: the fold over all levels goes on from the n-th.
-- Assumes nothing.
use Prim.Native.Nat.{◌-◌}
use mathlib.Core.Path.{◌≡◌}
use Rattle.rules.specs.Words.{levels_in_use, slots_of}
use Rattle.rules.proofs.Basics.Loops.{fold_from, within}
use Rattle.scanning.specs.Scans.{slot_met, scan_of}
use Rattle.scanning.proofs.items.scan_table.Given as goal

abbrev pub invariant-loop-n : goal.invariant-loop-n
invariant-loop-n l = scan_of l.t l.h ≡ fold_from (within (slot_met l.t l.h) slots_of) l.all (levels_in_use l.h.state) l.n

abbrev pub decreases-loop-n : goal.decreases-loop-n
decreases-loop-n l = l.levels - l.n
