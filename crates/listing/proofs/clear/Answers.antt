-- `listing::clear` meets its contract.
-- Assumes nothing.
use Rattle.rules.specs.Stores.{clear_stores}
use Rattle.listing.proofs.clear.Goals as goal

pub returns : goal.returns
unfolding clear_stores
returns c = rw (← c.token_word.ensures, ← c.hide.ensures) c.store.ensures
