-- `saying::tell` meets its contract: the digits that `io::decimal` gives are the decimal's.
-- Assumes nothing.
use Rattle.std.proofs.Common.{arith}
use Rattle.saying.proofs.Decimals.{decimal_is}
use Rattle.saying.proofs.tell.Goals as goal

pub returns : goal.returns
returns c =
    let e = c.decimal-count.ensures in
    (rw (← (decimal_is _ _ e.len), ← e.digits) c.copy.ensures, omega (arith, c.copy.ensures.next))
