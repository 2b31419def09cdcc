-- `reading::slots::token_word` meets its contract.
-- Assumes nothing.
use mathlib.Core.Path.{refl}
use Rattle.rules.specs.Words.{token_word}
use Rattle.reading.proofs.slots.token_word.Goals as goal

pub returns : goal.returns
unfolding token_word
returns c = refl
