-- `reading::slots::key_at` meets its contract.
-- Assumes nothing.
use borrow.Author.Rules.{rules}
use Rattle.rules.specs.Words.{token_word, key_word, key_in}
use Rattle.reading.proofs.slots.key_at.Goals as goal

pub offset_bounds-t-key_word : goal.offset_bounds-t-key_word
unfolding token_word key_word
offset_bounds-t-key_word c = search rules

pub bounds-t-key_word : goal.bounds-t-key_word
unfolding token_word key_word
bounds-t-key_word c = search rules

pub returns : goal.returns
unfolding key_in
returns c = rw c.key_word.ensures
