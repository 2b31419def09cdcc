-- `reading::gate::change_gate` meets its contract.
-- Assumes nothing.
use Rattle.rules.specs.Calls.{changing_tests, recover_tests}
use Rattle.reading.proofs.Gated.{passed_on, also_more, also_shut}
use Rattle.reading.proofs.gate.change_gate.Goals as goal

pub returns-in_err-h : goal.returns-in_err-h
unfolding changing_tests recover_tests
returns-in_err-h c = also_shut _ _ _ _ c.recover_gate.ensures.0 c.in_err-h.was (passed_on c.from_residual.ensures.1)

pub returns : goal.returns
unfolding changing_tests recover_tests
returns c = also_more _ _ _ _ c.recover_gate.ensures.0 (rw c.in_ok-h.was c.unflagged.ensures)
