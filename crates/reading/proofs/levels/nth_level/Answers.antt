-- `reading::levels::nth_level` meets its contract.
-- Assumes nothing.
use native.Mathlib.Omega.{arith}
use Rattle.rules.proofs.Words.States.{state-fits}
use Rattle.rules.proofs.Words.Levels.{third_level, earlier-level}
use Rattle.reading.proofs.levels.nth_level.Goals as goal

pub interim-requires : goal.interim-requires
interim-requires c = (c.requires.0, (third_level _ (rw c.if-n-eq2.true at c.requires.1)).0)

pub returns-then-n-eq2 : goal.returns-then-n-eq2
returns-then-n-eq2 c =
    let third = third_level _ (rw c.if-n-eq2.true at c.requires.1) in
    (rw (c.if-n-eq2.true, c.interim.ensures.0) third.1, c.interim.ensures.1)

pub overflow_sub-result : goal.overflow_sub-result
overflow_sub-result c = omega (arith, state-fits 20 _ c.requires.0, (earlier-level _ _ c.requires.1 c.if-n-eq2.false).0)

pub returns : goal.returns
returns c = ((earlier-level _ _ c.requires.1 c.if-n-eq2.false).1, omega (arith, state-fits 20 _ c.requires.0))
