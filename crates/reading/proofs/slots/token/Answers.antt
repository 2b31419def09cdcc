-- `reading::slots::token` meets its contract.
-- Assumes nothing.
use borrow.Author.Rules.{rules}
use Rattle.rules.specs.Words.{token_word, token_of}
use Rattle.reading.proofs.slots.token.Goals as goal

pub offset_bounds-t-token_word : goal.offset_bounds-t-token_word
unfolding token_word
offset_bounds-t-token_word c = search rules

pub bounds-t-token_word : goal.bounds-t-token_word
unfolding token_word
bounds-t-token_word c = search rules

pub returns : goal.returns
unfolding token_of
returns c = rw c.token_word.ensures
