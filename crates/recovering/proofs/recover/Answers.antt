-- `recovering::recover` meets its contract.
-- Assumes nothing.
use Rattle.rules.specs.Calls.{recover}
use Rattle.listing.proofs.Outcomes.{changed_shut, changed_open, recover-long}
use Rattle.reading.proofs.Gated.{passed_on}
use Rattle.recovering.proofs.recover.Goals as goal

pub recover_at-requires : goal.recover_at-requires
recover_at-requires c = (recover-long _ _ c.recover_gate.ensures.0 c.in_ok-h.was, c.in_ok-h.ensures.1.1, c.in_ok-h.ensures.1.0)

pub returns-in_err-h : goal.returns-in_err-h
returns-in_err-h c = rw (passed_on c.from_residual.ensures.1) (changed_shut recover _ _ c.recover_gate.ensures.0 c.in_err-h.was)

pub returns : goal.returns
returns c = changed_open recover _ _ c.recover_gate.ensures.0 c.in_ok-h.was c.in_ok-h.ensures.1.0 c.recover_at.ensures
