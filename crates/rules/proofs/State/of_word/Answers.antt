-- `rules::State::of_word` meets its contract.
-- Assumes nothing.
use mathlib.Core.Path.{refl}
use Rattle.rules.specs.Words.{state_of}
use Rattle.rules.proofs.State.of_word.Goals as goal

pub returns : goal.returns
unfolding state_of
returns c = refl
