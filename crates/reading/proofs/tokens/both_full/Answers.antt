-- `reading::tokens::both_full` meets its contract.
-- Assumes nothing.
use Rattle.reading.proofs.TokenWords.{none_free}
use Rattle.reading.proofs.tokens.both_full.Goals as goal

pub returns : goal.returns
returns c = rw c.token_number.ensures.0 (none_free _ _ _)
