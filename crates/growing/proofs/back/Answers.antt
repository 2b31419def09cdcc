-- `growing::back` meets its contract.
-- Assumes nothing.
use Rattle.rules.specs.Calls.{back}
use Rattle.rules.proofs.Words.Headers.{header-state}
use Rattle.reading.proofs.Gated.{passed_on}
use Rattle.listing.proofs.Outcomes.{changed_shut, changed_open, change-long}
use Rattle.growing.proofs.back.Goals as goal

pub back_at-requires : goal.back_at-requires
back_at-requires c = (change-long _ _ c.change_gate.ensures.0 c.in_ok-h.was, header-state _ _ c.in_ok-h.ensures.1.1)

pub returns-in_err-h : goal.returns-in_err-h
returns-in_err-h c = rw (passed_on c.from_residual.ensures.1) (changed_shut back _ _ c.change_gate.ensures.0 c.in_err-h.was)

pub returns : goal.returns
returns c = changed_open back _ _ c.change_gate.ensures.0 c.in_ok-h.was c.in_ok-h.ensures.1.0 c.back_at.ensures
