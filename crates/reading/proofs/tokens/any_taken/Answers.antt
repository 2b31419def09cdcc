-- `reading::tokens::any_taken` meets its contract.
-- Assumes nothing.
use Rattle.reading.proofs.TokenWords.{some-taken}
use Rattle.reading.proofs.tokens.any_taken.Goals as goal

pub returns : goal.returns
returns c = rw c.token_number.ensures.0 (some-taken _ _)
