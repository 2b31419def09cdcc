-- `growing::restate` meets its contract.
-- Assumes nothing.
use native.Mathlib.Omega.{arith}
use Rattle.rules.specs.Stores.{state_stores}
use Rattle.listing.proofs.Outcomes.{did_list}
use Rattle.growing.proofs.restate.Goals as goal

pub returns : goal.returns
unfolding state_stores
returns c = rw (← c.word.ensures) (did_list c.store-listed.ensures (omega (arith, c.requires.0)))
