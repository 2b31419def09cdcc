-- `reading::tokens::without_lowest` meets its contract.
-- Assumes nothing.
use mathlib.Core.Path.{refl}
use Rattle.reading.specs.Tokens.{rest_of}
use Rattle.reading.proofs.tokens.without_lowest.Goals as goal

pub returns : goal.returns
unfolding rest_of
returns c = refl
