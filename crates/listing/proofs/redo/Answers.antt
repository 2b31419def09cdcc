-- `listing::redo` meets its contract.
-- Assumes nothing.
use native.Mathlib.Omega.{arith}
use Rattle.rules.specs.Words.{function_word, place_word, key_word, token_word}
use Rattle.rules.specs.Stores.{redo_stores}
use Rattle.listing.proofs.Runs.{three}
use Rattle.listing.proofs.redo.Goals as goal

pub overflow_add-key : goal.overflow_add-key
unfolding key_word token_word
overflow_add-key c = omega arith

pub overflow_add-key-2 : goal.overflow_add-key-2
unfolding key_word token_word
overflow_add-key-2 c = omega arith

pub returns : goal.returns
unfolding redo_stores function_word place_word
returns c = rw (← c.key_word-key.ensures) (three _ _ _ _ _ c.store-second.ensures c.store-third.ensures c.store.ensures)
