-- `reading::places::place_from` meets its contract.
-- Assumes nothing.
use native.Mathlib.Omega.{arith}
use lib.Bits.{and_le_r}
use Rattle.reading.proofs.places.place_from.Goals as goal

pub overflow_add-result : goal.overflow_add-result
overflow_add-result c = omega (arith, c.requires, and_le_r c.args.hash c.args.first)
