-- `scanning::items::stands_in` meets its contract.
-- Assumes nothing.
use Rattle.scanning.proofs.Meeting.{at_first, at_second}
use Rattle.scanning.proofs.items.stands_in.Goals as goal

pub returns-then-x-place : goal.returns-then-x-place
returns-then-x-place c = at_first _ _ _ c.place.ensures.0 c.if-x-place.true

pub returns-else-x-place : goal.returns-else-x-place
returns-else-x-place c = at_second _ _ _ c.place.ensures.0 c.if-x-place.false c.place-else-x-place.ensures.0
