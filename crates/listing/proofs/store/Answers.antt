-- `listing::store` meets its contract.
-- Assumes nothing.
use mathlib.Core.Path.{refl}
use native.Mathlib.Omega.{arith}
use lib.ListN.{length-set}
use Rattle.listing.proofs.Runs.{one_pair}
use Rattle.listing.proofs.store.Goals as goal

pub bounds-list-at-2 : goal.bounds-list-at-2
bounds-list-at-2 c = simp length-set (omega arith)

pub returns : goal.returns
returns c = (refl, one_pair _ _ _ _)
