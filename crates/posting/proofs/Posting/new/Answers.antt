-- `posting::Posting::new` meets its contract.
-- Assumes nothing.
use Rattle.posting.proofs.Posting.new.Goals as goal

pub returns : goal.returns
returns c = λ room. rw (c.new.ensures room)
