-- `making::indexes_inside` meets its contract: the answer for all pairs is the answer for those that are left.
-- Assumes nothing.
use mathlib.Core.Path.{◌≡◌}
use lib.ListN.{length}
use Rattle.rules.specs.Stores.{pairs}
use Rattle.making.specs.Indexes.{inside}
use Rattle.making.proofs.Making.{pairs_in}
use Rattle.making.proofs.indexes_inside.Given as goal

abbrev pub invariant-loop-rest : goal.invariant-loop-rest
invariant-loop-rest l = inside l.size (pairs l.count l.list) ≡ inside l.size (pairs_in l.rest)

abbrev pub decreases-loop-rest : goal.decreases-loop-rest
decreases-loop-rest l = length l.rest
