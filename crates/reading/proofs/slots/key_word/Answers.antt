-- `reading::slots::key_word` meets its contract.
-- Assumes nothing.
use native.Mathlib.Omega.{arith}
use Rattle.rules.specs.Words.{token_word, key_word}
use Rattle.reading.proofs.slots.key_word.Goals as goal

pub overflow_add-result-2 : goal.overflow_add-result-2
unfolding token_word
overflow_add-result-2 c = omega arith

pub returns : goal.returns
unfolding key_word
returns c = rw c.token_word.ensures
