-- `reading::gate::recover_gate` meets its contract.
-- Assumes nothing.
use borrow.Author.Tests.{le-leb, lt-leb}
use Rattle.rules.specs.Calls.{list_long, recover_tests}
use Rattle.reading.specs.Gates.{header_test}
use Rattle.reading.proofs.Gated.{passed_on, also_more, also_shut, also_failed, also_passed}
use Rattle.reading.proofs.gate.recover_gate.Goals as goal

pub returns-in_err-h : goal.returns-in_err-h
unfolding recover_tests header_test
returns-in_err-h c = also_shut _ _ _ _ c.header_gate.ensures.0 c.in_err-h.was (passed_on c.from_residual.ensures.1)

pub returns-then-n-lt20 : goal.returns-then-n-lt20
unfolding recover_tests header_test list_long
returns-then-n-lt20 c =
    also_more _ _ _ _ c.header_gate.ensures.0 (rw c.in_ok-h.was (also_failed _ _ _ (lt-leb _ _ c.if-n-lt20.true)))

pub returns : goal.returns
unfolding recover_tests header_test list_long
returns c =
    also_more _ _ _ _ c.header_gate.ensures.0 (rw c.in_ok-h.was (also_passed _ _ _ _ c.in_ok-h.ensures.1 (le-leb _ _ c.if-n-lt20.false)))
