-- `querying::probing::nth_place` meets its contract.
-- Assumes nothing.
use native.Mathlib.Omega.{arith}
use Rattle.querying.proofs.Turning.{first_turn, second_turn}
use Rattle.querying.proofs.probing.nth_place.Goals as goal

pub place_in_use-requires : goal.place_in_use-requires
place_in_use-requires c = (c.requires.0, omega (arith, c.requires.1))

pub returns-then-i-eq0 : goal.returns-then-i-eq0
returns-then-i-eq0 c = first_turn _ _ _ c.if-i-eq0.true c.place_in_use.ensures.0

pub place_in_use-requires-2 : goal.place_in_use-requires-2
place_in_use-requires-2 c = (c.requires.0, omega (arith, c.requires.1))

pub returns : goal.returns
returns c = second_turn _ _ _ c.if-i-eq0.false c.place_in_use-2.ensures.0
