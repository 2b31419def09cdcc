-- `rules::State::shrinking` meets its contract.
-- Assumes nothing.
use mathlib.Core.Path.{refl}
use Rattle.rules.specs.Words.{shrinking}
use Rattle.rules.proofs.State.shrinking.Goals as goal

pub returns : goal.returns
unfolding shrinking
returns c = refl
