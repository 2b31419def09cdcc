-- `chaining::put_before` meets its contract.
-- Assumes nothing.
use mathlib.Core.Path.{refl}
use native.Mathlib.Omega.{arith}
use lib.ListN.{length-set}
use Rattle.listing.proofs.Runs.{one_pair}
use Rattle.chaining.proofs.put_before.Goals as goal

pub bounds-records-at-then-below : goal.bounds-records-at-then-below
bounds-records-at-then-below c = simp length-set (omega arith)

pub returns-then-below : goal.returns-then-below
returns-then-below c = rw c.if-below.true (refl, one_pair _ _ _ _)
