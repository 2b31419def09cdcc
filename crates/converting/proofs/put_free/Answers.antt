-- `converting::put_free` meets its contract: its four stores are those that a put lists.
-- Assumes nothing.
use Prim.Native.Nat.{◌+◌, ◌^◌, ◌<◌}
use mathlib.Core.Path.{◌∙◌}
use native.Mathlib.Omega.{arith}
use lib.ListN.{length, length-set}
use Rattle.rules.specs.Words.{function_word, place_word, key_word, token_word}
use Rattle.rules.specs.Stores.{put_stores}
use Rattle.rules.proofs.Words.Forms.{tag_untagged}
use Rattle.rules.proofs.Words.Tokens.{tag_small}
use Rattle.listing.proofs.Runs.{shown_with}
use Rattle.converting.proofs.put_free.Goals as goal
use Rattle.converting.proofs.put_free.Goals.{After-key_word-at, After-token_word}

-- the words of the slot, and its token word, lie in the table, and so do their addresses in a word
inside : (c : After-key_word-at) → c.key_word-at.result + 2 < length c.args.second.now
unfolding key_word token_word
inside c = let pre = c.requires in omega (arith, pre.1.0, pre.1.1, c.key_word-at.ensures)

short : (c : After-key_word-at) → length c.args.second.now < 2 ^ 32
short c = c.requires.0

token_inside : (c : After-token_word) → c.token_word.result < length c.args.second.now
unfolding token_word
token_inside c = let pre = c.requires in omega (arith, pre.1.0, c.token_word.ensures)

pub offset_bounds-second-at : goal.offset_bounds-second-at
offset_bounds-second-at c = omega (arith, inside (goal.at.offset_bounds-second-at c).After-key_word-at, short (goal.at.offset_bounds-second-at c).After-key_word-at)

pub bounds-second-at : goal.bounds-second-at
bounds-second-at c = omega (arith, inside (goal.at.bounds-second-at c).After-key_word-at)

pub overflow_add-second : goal.overflow_add-second
overflow_add-second c = omega (arith, inside (goal.at.overflow_add-second c).After-key_word-at, short (goal.at.overflow_add-second c).After-key_word-at)

pub offset_bounds-second-at-2 : goal.offset_bounds-second-at-2
offset_bounds-second-at-2 c = omega (arith, inside (goal.at.offset_bounds-second-at-2 c).After-key_word-at, short (goal.at.offset_bounds-second-at-2 c).After-key_word-at)

pub bounds-second-at-2 : goal.bounds-second-at-2
bounds-second-at-2 c = simp length-set (omega (arith, inside (goal.at.bounds-second-at-2 c).After-key_word-at))

pub overflow_add-second-2 : goal.overflow_add-second-2
overflow_add-second-2 c = omega (arith, inside (goal.at.overflow_add-second-2 c).After-key_word-at, short (goal.at.overflow_add-second-2 c).After-key_word-at)

pub offset_bounds-second-at-3 : goal.offset_bounds-second-at-3
offset_bounds-second-at-3 c = omega (arith, inside (goal.at.offset_bounds-second-at-3 c).After-key_word-at, short (goal.at.offset_bounds-second-at-3 c).After-key_word-at)

pub bounds-second-at-3 : goal.bounds-second-at-3
bounds-second-at-3 c = simp length-set (omega (arith, inside (goal.at.bounds-second-at-3 c).After-key_word-at))

pub show-requires : goal.show-requires
show-requires c =
    let pre = c.requires in
    (pre.1.1, (rw pre.2 (tag_small _ _), λ e. pre.2 ∙ tag_untagged _ e _))

pub offset_bounds-second-token_word : goal.offset_bounds-second-token_word
offset_bounds-second-token_word c = omega (arith, token_inside (goal.at.offset_bounds-second-token_word c).After-token_word, short (goal.at.offset_bounds-second-token_word c).After-key_word-at)

pub bounds-second-token_word : goal.bounds-second-token_word
bounds-second-token_word c = simp length-set (omega (arith, token_inside (goal.at.bounds-second-token_word c).After-token_word))

pub returns : goal.returns
unfolding put_stores function_word place_word
returns c =
    rw (
      ← c.token-word.ensures,
      ← c.key_word-at.ensures,
      ← c.token_word.ensures,
      ← (shown_with _ _ _ _ c.requires.2 c.show.ensures),
    )
