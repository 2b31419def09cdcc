-- `reading::gate::query_gate` meets its contract.
-- Assumes nothing.
use Rattle.rules.specs.Calls.{query_tests}
use Rattle.reading.specs.Gates.{header_test}
use Rattle.reading.proofs.Gated.{passed_on, also_more, also_shut}
use Rattle.reading.proofs.gate.query_gate.Goals as goal

pub returns-in_err-h : goal.returns-in_err-h
unfolding query_tests header_test
returns-in_err-h c = also_shut _ _ _ _ c.header_gate.ensures.0 c.in_err-h.was (passed_on c.from_residual.ensures.1)

pub returns : goal.returns
unfolding query_tests header_test
returns c = also_more _ _ _ _ c.header_gate.ensures.0 (rw c.in_ok-h.was c.unflagged.ensures)
