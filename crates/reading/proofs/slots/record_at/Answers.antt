-- `reading::slots::record_at` meets its contract.
-- Assumes nothing.
use borrow.Author.Rules.{rules}
use Rattle.rules.specs.Words.{token_word, key_word, function_word, place_word, record_in}
use Rattle.reading.proofs.slots.record_at.Goals as goal

pub overflow_add-result : goal.overflow_add-result
unfolding token_word key_word
overflow_add-result c = search rules

pub offset_bounds-t-at : goal.offset_bounds-t-at
unfolding token_word key_word
offset_bounds-t-at c = search rules

pub bounds-t-at : goal.bounds-t-at
unfolding token_word key_word
bounds-t-at c = search rules

pub overflow_add-result-2 : goal.overflow_add-result-2
unfolding token_word key_word
overflow_add-result-2 c = search rules

pub offset_bounds-t-at-2 : goal.offset_bounds-t-at-2
unfolding token_word key_word
offset_bounds-t-at-2 c = search rules

pub bounds-t-at-2 : goal.bounds-t-at-2
unfolding token_word key_word
bounds-t-at-2 c = search rules

pub returns : goal.returns
unfolding record_in function_word place_word
returns c = rw c.key_word-at.ensures
