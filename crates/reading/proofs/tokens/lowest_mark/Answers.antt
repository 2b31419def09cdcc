-- `reading::tokens::lowest_mark` meets its contract.
-- Assumes nothing.
use mathlib.Core.Path.{refl}
use native.Mathlib.Omega.{arith}
use lib.Count.{trailing_le}
use Rattle.reading.specs.Tokens.{lowest_mark}
use Rattle.reading.proofs.tokens.lowest_mark.Goals as goal

pub overflow_cast-result : goal.overflow_cast-result
overflow_cast-result c = record { fits = omega (arith, trailing_le 64 c.args.left) }

pub returns : goal.returns
unfolding lowest_mark
returns c = refl
