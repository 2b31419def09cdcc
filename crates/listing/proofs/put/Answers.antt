-- `listing::put` meets its contract.
-- Assumes nothing.
use native.Mathlib.Omega.{arith}
use Rattle.rules.specs.Words.{function_word, place_word, key_word, token_word}
use Rattle.rules.specs.Stores.{put_stores}
use mathlib.Core.Path.{◌∙◌}
use Rattle.rules.proofs.Words.Forms.{tag_untagged}
use Rattle.rules.proofs.Words.Tokens.{tag_small}
use Rattle.listing.proofs.Runs.{four, shown_with}
use Rattle.listing.proofs.put.Goals as goal

pub show-shown-requires : goal.show-shown-requires
show-shown-requires c =
    let pre = c.requires in
    (pre.1.1, (rw pre.2 (tag_small _ _), λ e. pre.2 ∙ tag_untagged _ e _))

pub overflow_add-first : goal.overflow_add-first
unfolding key_word token_word
overflow_add-first c = omega arith

pub overflow_add-first-2 : goal.overflow_add-first-2
unfolding key_word token_word
overflow_add-first-2 c = omega arith

pub returns : goal.returns
unfolding put_stores function_word place_word
returns c =
    rw (
      ← c.key_word-first.ensures,
      ← c.token_word-last.ensures,
      ← (shown_with _ _ _ _ c.requires.2 c.show-shown.ensures),
    )
    (four _ _ _ _ _ c.store-second.ensures c.store-third.ensures c.store-fourth.ensures _ c.store.ensures)
