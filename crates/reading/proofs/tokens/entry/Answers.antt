-- `reading::tokens::entry` meets its contract.
-- Assumes nothing.
use Rattle.reading.proofs.tokens.entry.Goals as goal

pub returns : goal.returns
returns c = rw c.token_number.ensures.0
