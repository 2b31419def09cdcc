-- `saying::changed` meets its contract: its lines are put one after the other.
-- Assumes nothing.
use native.Mathlib.Omega.{arith}
use Rattle.saying.proofs.LinesPut.{line_before, last_line, change-lines}
use Rattle.saying.proofs.changed.Goals as goal

pub returns : goal.returns
returns c =
    let number = rw c.change_number.ensures at c.put_line-second.ensures.0 in
    let stores = rw c.reported.ensures at c.put_line.ensures.0 in
    (rw (change-lines _) (line_before _ _ number (last_line _ stores)), omega arith)
