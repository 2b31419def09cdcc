-- The depth, which falls by one each call until 0.
-- Assumes nothing.
use Rattle.std.proofs.Common.{◌%◌}
use Rattle.chaining.proofs.+walk.Given as goal

abbrev pub decreases-walk : goal.decreases-walk
decreases-walk l = l.key % 256
