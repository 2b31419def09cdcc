-- `saying::put_line` meets its contract: a name, a decimal and a newline, put one after the other.
-- Assumes nothing.
use Rattle.std.proofs.Common.{arith}
use Rattle.saying.specs.Writing.{line_with}
use Rattle.saying.proofs.Puts.{then}
use Rattle.saying.proofs.put_line.Goals as goal

pub returns : goal.returns
unfolding line_with
returns c =
    (then (then c.copy-named.ensures c.tell-told.ensures.0) c.copy.ensures, omega (arith, c.copy.ensures.next, c.tell-told.ensures.1, c.copy-named.ensures.next))
