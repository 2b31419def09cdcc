-- `rules::State::at_rest` meets its contract.
-- Assumes nothing.
use mathlib.Core.Path.{refl}
use Rattle.rules.specs.Words.{at_rest}
use Rattle.rules.proofs.State.at_rest.Goals as goal

pub returns : goal.returns
unfolding at_rest
returns c = refl
