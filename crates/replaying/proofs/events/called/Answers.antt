-- `replaying::events::called` meets its contract: each call answers for itself.
-- Assumes nothing.
use Rattle.std.proofs.Common.{refl}
use Rattle.listing.proofs.Steps.{step-changes}
use Rattle.replaying.proofs.Made.{called-query, called-change}
use Rattle.replaying.proofs.events.called.Goals as goal

pub returns-in-Query : goal.returns-in-Query
returns-in-Query c = rw c.in-Query.is (called-query _ c.query.ensures)

pub returns-in-Insert : goal.returns-in-Insert
returns-in-Insert c = rw c.in-Insert.is (called-change _ refl c.insert.ensures)

pub returns-in-Update : goal.returns-in-Update
returns-in-Update c = rw c.in-Update.is (called-change _ refl c.update.ensures)

pub returns-in-Delete : goal.returns-in-Delete
returns-in-Delete c = rw c.in-Delete.is (called-change _ refl c.delete.ensures)

pub returns-in-Begin : goal.returns-in-Begin
returns-in-Begin c = rw c.in-Begin.is (called-change _ refl c.begin.ensures)

pub returns-in-Shrink : goal.returns-in-Shrink
returns-in-Shrink c = rw c.in-Shrink.is (called-change _ refl c.shrink.ensures)

pub returns-in-Back : goal.returns-in-Back
returns-in-Back c = rw c.in-Back.is (called-change _ refl c.back.ensures)

pub returns-in-Step : goal.returns-in-Step
returns-in-Step c = rw c.in-Step.is (called-change _ refl (step-changes c.step.ensures))

pub returns-in-End : goal.returns-in-End
returns-in-End c = rw c.in-End.is (called-change _ refl c.end.ensures)

pub returns-in-Recover : goal.returns-in-Recover
returns-in-Recover c = rw c.in-Recover.is (called-change _ refl c.recover.ensures)
