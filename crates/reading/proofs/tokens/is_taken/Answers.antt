-- `reading::tokens::is_taken` meets its contract.
-- Assumes nothing.
use Rattle.rules.specs.Words.{is_taken}
use Rattle.reading.proofs.tokens.is_taken.Goals as goal

pub returns : goal.returns
unfolding is_taken
returns c = rw c.token_number.ensures.0
