-- `reading::tokens::token_number` meets its contract.
-- Assumes nothing.
use native.Mathlib.Omega.{arith}
use mathlib.Core.Path.{refl}
use Rattle.rules.specs.Words.{token_number}
use Rattle.reading.proofs.tokens.token_number.Goals as goal

pub returns : goal.returns
unfolding token_number
returns c = (refl, omega arith)
