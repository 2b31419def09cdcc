-- `reading::slots::spot` meets its contract.
-- Assumes nothing.
use Rattle.rules.specs.Words.{spot_of}
use Rattle.reading.proofs.slots.spot.Goals as goal

pub returns : goal.returns
unfolding spot_of
returns c = rw c.key_word.ensures
