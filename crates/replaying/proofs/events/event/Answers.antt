-- `replaying::events::event` meets its contract.
-- Assumes nothing.
use borrow.Enum.Refused.{opened}
use Rattle.replaying.proofs.Made.{not_changed, change_done, query_done}
use Rattle.replaying.proofs.events.event.Goals as goal

pub returns-in_default : goal.returns-in_default
returns-in_default c = query_done _ _ _ c.called-own.ensures (not_changed _ (opened c.in_default.in_default-own.keys2))

pub returns : goal.returns
returns c = change_done _ _ _ c.called-own.ensures c.in-Changed.is c.make_change.ensures
