-- `reading::header::decode` meets its contract.
-- Assumes nothing.
use Rattle.rules.specs.Words.{header_of}
use Rattle.reading.proofs.header.decode.Goals as goal

pub returns : goal.returns
unfolding header_of
returns c = rw c.of_word.ensures
