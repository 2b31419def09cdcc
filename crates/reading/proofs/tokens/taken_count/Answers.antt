-- `reading::tokens::taken_count` meets its contract: its table has the right entry for each token number.
-- Assumes nothing.
use mathlib.Core.Path.{refl}
use lib.ListN.{length}
use Rattle.rules.specs.Choice.{select}
use Rattle.rules.specs.Words.{slots, token_number, is_taken, taken_of}
use Rattle.reading.proofs.TokenWords.{told}
use Rattle.reading.proofs.tokens.taken_count.Goals as goal

pub returns : goal.returns
unfolding taken_of is_taken token_number
returns c = told c.args.h _ (λ p. length (select p slots)) refl _ c.entry.ensures
