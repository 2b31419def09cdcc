-- `making::store_all` meets its contract: making all pairs is making those that are left in the table so far.
-- Assumes nothing.
use mathlib.Core.Path.{◌≡◌}
use mathlib.Core.Bool.{true}
use lib.ListN.{length}
use Rattle.rules.specs.Stores.{pairs, made}
use Rattle.making.specs.Indexes.{inside}
use Rattle.making.proofs.Making.{pairs_in}
use Rattle.making.proofs.store_all.Given as goal

abbrev pub invariant-loop-rest : goal.invariant-loop-rest
invariant-loop-rest l = (length l.t ≡ length l.initial.t) × (inside (length l.initial.t) (pairs_in l.rest) ≡ true)
    × (made l.initial.t (pairs l.count l.list) ≡ made l.t (pairs_in l.rest))

abbrev pub decreases-loop-rest : goal.decreases-loop-rest
decreases-loop-rest l = length l.rest
