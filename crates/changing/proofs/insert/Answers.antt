-- `changing::insert` meets its contract.
-- Assumes nothing.
use Rattle.rules.specs.Calls.{insert}
use Rattle.reading.proofs.Gated.{passed_on, open_headed}
use Rattle.listing.proofs.Outcomes.{changed_shut, changed_open, change-long}
use Rattle.changing.proofs.insert.Goals as goal

pub insert_at-requires : goal.insert_at-requires
insert_at-requires c = (change-long _ _ c.change_gate.ensures.0 c.in_ok-h.was, open_headed _ _ c.change_gate.ensures.1 c.in_ok-h.was)

pub returns-in_err-h : goal.returns-in_err-h
returns-in_err-h c = rw (passed_on c.from_residual.ensures.1) (changed_shut (insert c.args.key c.args.r) _ _ c.change_gate.ensures.0 c.in_err-h.was)

pub returns : goal.returns
returns c = changed_open (insert c.args.key c.args.r) _ _ c.change_gate.ensures.0 c.in_ok-h.was c.in_ok-h.ensures.1.0 c.insert_at.ensures
