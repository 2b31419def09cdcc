-- `listing::log` meets its contract.
-- Assumes nothing.
use Rattle.listing.proofs.Runs.{four}
use Rattle.listing.proofs.log.Goals as goal

pub returns : goal.returns
returns c = rw (← c.key_word.ensures) (four _ _ _ _ _ c.store-second.ensures c.store-third.ensures c.store-fourth.ensures _ c.store.ensures)
