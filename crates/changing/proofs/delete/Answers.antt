-- `changing::delete` meets its contract.
-- Assumes nothing.
use Rattle.rules.specs.Calls.{delete}
use Rattle.reading.proofs.Gated.{passed_on}
use Rattle.listing.proofs.Outcomes.{changed_shut, changed_open, change-long}
use Rattle.changing.proofs.delete.Goals as goal

pub delete_at-requires : goal.delete_at-requires
delete_at-requires c = (change-long _ _ c.change_gate.ensures.0 c.in_ok-h.was, c.in_ok-h.ensures.1.1)

pub returns-in_err-h : goal.returns-in_err-h
returns-in_err-h c = rw (passed_on c.from_residual.ensures.1) (changed_shut (delete c.args.key) _ _ c.change_gate.ensures.0 c.in_err-h.was)

pub returns : goal.returns
returns c = changed_open (delete c.args.key) _ _ c.change_gate.ensures.0 c.in_ok-h.was c.in_ok-h.ensures.1.0 c.delete_at.ensures
