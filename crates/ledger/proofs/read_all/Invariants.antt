-- `ledger::read_all` meets its contract.
-- Assumes nothing.
use Rattle.std.proofs.Common.{◌≡◌, length, ◌-◌, ◌^◌, ◌<◌}
use Rattle.running.specs.Runs.{Behind}
use Rattle.posting.specs.Posts.{begun, no_line, after_bytes, post_of}
use Rattle.ledger.proofs.read_all.Given as goal

abbrev pub invariant-loop-parts : goal.invariant-loop-parts
invariant-loop-parts l =
    (length l.room ≡ length l.initial.room) × (length l.input ≡ length l.initial.input) × (l.parts < 2 ^ 64)
    × Behind after_bytes (begun l.initial.room no_line) l.parts (post_of l.posting l.room)

abbrev pub decreases-loop-parts : goal.decreases-loop-parts
decreases-loop-parts l = 2 ^ 64 - l.parts
