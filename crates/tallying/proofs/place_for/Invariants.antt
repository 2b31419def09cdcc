-- `tallying::place_for` meets its contract.
-- Assumes nothing.
use Rattle.tallying.specs.Tallies.{Between, functions_of}
use Rattle.std.proofs.Common.{◌-◌, ◌^◌, ◌<◌, ◌≤◌}
use Rattle.tallying.proofs.place_for.Given as goal

abbrev pub invariant-loop : goal.invariant-loop
invariant-loop l =
    (l.counter ≤ 10)
    × Between l.function (functions_of l.credits) l.left.start l.left.end × (l.left.end - l.left.start < 2 ^ (10 - l.counter))

abbrev pub decreases-loop : goal.decreases-loop
decreases-loop l = 10 - l.counter
