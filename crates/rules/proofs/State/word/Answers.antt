-- `rules::State::word` meets its contract.
-- Assumes nothing.
use mathlib.Core.Path.{refl}
use Rattle.rules.specs.Words.{state_word}
use Rattle.rules.proofs.State.word.Goals as goal

pub returns : goal.returns
unfolding state_word
returns c = refl
