-- `reading::header::words_for` meets its contract: with c at most 20 the size fits.
-- Assumes nothing.
use Prim.Native.Nat.{◌+◌, ◌^◌, ◌≤◌}
use native.Mathlib.Omega.{arith}
use lib.Pow.{pow_mono}
use Rattle.rules.specs.Words.{words_for}
use Rattle.reading.proofs.header.words_for.Goals as goal
use Rattle.reading.proofs.header.words_for.Goals.{After-power}

low : (c : After-power) → 2 ^ (c.args.c + 1) ≤ 2 ^ 21
low c = pow_mono {j = 21} (omega arith)

pub overflow_mul-result : goal.overflow_mul-result
overflow_mul-result c = omega (arith, low (goal.at.overflow_mul-result c).After-power)

pub overflow_add-result : goal.overflow_add-result
overflow_add-result c = omega (arith, low (goal.at.overflow_add-result c).After-power)

pub returns : goal.returns
unfolding words_for
returns c = rw c.power.ensures.0
