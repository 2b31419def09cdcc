-- `script::take_part` meets its contract: the first `taken` bytes of the part are taken.
-- Assumes nothing.
use Prim.Native.Nat.{◌-◌, ◌≤◌}
use mathlib.Core.Path.{◌≡◌}
use lib.ListN.{length, take}
use Rattle.running.specs.Runs.{after_bytes}
use Rattle.script.proofs.take_part.Given as goal

abbrev pub invariant-loop-taken : goal.invariant-loop-taken
invariant-loop-taken l =
    (l.taken ≤ length l.part)
    × (record { run = l.run; room = l.room; line = l.line } ≡ after_bytes (record { run = l.initial.run; room = l.initial.room; line = l.initial.line }) (take l.taken l.part))

abbrev pub decreases-loop-taken : goal.decreases-loop-taken
decreases-loop-taken l = length l.part - l.taken
