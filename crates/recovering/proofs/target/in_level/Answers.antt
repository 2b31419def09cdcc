-- `recovering::target::in_level` meets its contract.
-- Assumes nothing.
use native.Mathlib.Omega.{arith}
use lib.Pow.{pow_mono}
use Rattle.recovering.proofs.Word6.{below_level, above-level}
use Rattle.recovering.proofs.target.in_level.Goals as goal

pub returns-then-j-size : goal.returns-then-j-size
returns-then-j-size c = below_level _ _ c.power-size.ensures.0 c.if-j-size.true

pub overflow_mul-result : goal.overflow_mul-result
overflow_mul-result c = omega (arith, c.power-size.ensures.0, pow_mono c.requires)

pub returns : goal.returns
returns c = above-level _ _ c.power-size.ensures.0 c.if-j-size.false
