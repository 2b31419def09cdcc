-- `reporting::put_functions` meets its contract.
-- Assumes nothing.
use Rattle.std.proofs.Common.{◌≡◌, length}
use Rattle.reporting.proofs.Putting.{Lines}
use Rattle.reporting.proofs.put_functions.Given as goal

abbrev pub invariant-loop-credit : goal.invariant-loop-credit
invariant-loop-credit l =
    (length l.out ≡ length l.initial.out) × Lines l.credits l.start l.initial.out l.credit-index l.at l.out
