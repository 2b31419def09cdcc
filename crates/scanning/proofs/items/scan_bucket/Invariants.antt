-- `scanning::items::scan_bucket` meets its contract.
-- Assumes nothing.
use Prim.Native.Nat.{◌-◌}
use mathlib.Core.Path.{◌≡◌}
use mathlib.Core.List.{foldl}
use Rattle.rules.specs.Words.{slots_in}
use Rattle.rules.proofs.Basics.Loops.{fold_from}
use Rattle.scanning.specs.Scans.{slot_met}
use Rattle.scanning.proofs.items.scan_bucket.Given as goal

abbrev pub invariant-loop-s : goal.invariant-loop-s
invariant-loop-s l = foldl (slot_met l.t l.h) l.initial.all (slots_in l.p) ≡ fold_from (slot_met l.t l.h) l.all (slots_in l.p) l.s

abbrev pub decreases-loop-s : goal.decreases-loop-s
decreases-loop-s l = 4 - l.s
