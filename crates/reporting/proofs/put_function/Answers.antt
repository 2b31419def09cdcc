-- `reporting::put_function` meets its contract: its parts are put one after the other.
-- Assumes nothing.
use Rattle.std.proofs.Common.{arith}
use Rattle.reporting.proofs.Putting.{function-put}
use Rattle.reporting.proofs.put_function.Goals as goal

pub returns : goal.returns
returns c =
    let put = function-put _ _ c.copy-named.ensures c.tell-told.ensures.0 c.copy-equal.ensures c.tell-counted.ensures.0 c.copy.ensures in
    (put, omega (arith, c.copy-named.ensures.next, c.tell-told.ensures.1, c.copy-equal.ensures.next, c.tell-counted.ensures.1, c.copy.ensures.next))
