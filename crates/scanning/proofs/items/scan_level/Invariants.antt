-- `scanning::items::scan_level` meets its contract.
-- Assumes nothing.
use Prim.Native.Nat.{◌-◌}
use mathlib.Core.Path.{◌≡◌}
use mathlib.Core.List.{foldl}
use Rattle.rules.specs.Choice.{from}
use Rattle.rules.specs.Words.{slots_of}
use Rattle.rules.proofs.Basics.Loops.{fold_from}
use Rattle.scanning.specs.Scans.{slot_met}
use Rattle.scanning.proofs.Meeting.{level_met}
use Rattle.scanning.proofs.items.scan_level.Given as goal

abbrev pub invariant-loop-i : goal.invariant-loop-i
invariant-loop-i l = foldl (slot_met l.t l.h) l.initial.all (slots_of l.l) ≡ fold_from (level_met l.t l.h l.l) l.all (from (l.size - 1) l.size) l.i

abbrev pub decreases-loop-i : goal.decreases-loop-i
decreases-loop-i l = l.size - l.i
