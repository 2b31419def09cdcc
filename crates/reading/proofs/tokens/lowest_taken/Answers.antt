-- `reading::tokens::lowest_taken` meets its contract: its table has the right entry for each token number.
-- Assumes nothing.
use mathlib.Core.Path.{refl}
use Rattle.rules.specs.Words.{token_number, is_taken, lowest, lowest_taken}
use Rattle.reading.proofs.TokenWords.{told}
use Rattle.reading.proofs.tokens.lowest_taken.Goals as goal

pub returns : goal.returns
unfolding lowest_taken is_taken token_number
returns c = told c.args.h _ lowest refl _ c.entry.ensures
