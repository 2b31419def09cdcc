-- `listing::moved` meets its contract.
-- Assumes nothing.
use Rattle.listing.proofs.Placings.{move_run}
use Rattle.listing.proofs.moved.Goals as goal

pub returns : goal.returns
returns c =
    move_run _ _ _ _ _ c.token-word.ensures c.key_at-key.ensures c.record_at-record.ensures c.token.ensures
    c.put-copied.ensures c.clear-cleared.ensures
