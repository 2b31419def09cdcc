-- `tallying::insert_at` meets its contract.
-- Assumes nothing.
use Rattle.std.proofs.Common.{arith, ◌-◌, length}
use Rattle.tallying.proofs.Inserting.{inserted}
use Rattle.tallying.proofs.insert_at.Goals as goal

pub returns : goal.returns
returns c =
    rw c.copy_within.ensures.after
    (inserted c.args.credits.now c.args.at (length c.args.credits.now - 1) c.args.credit (omega (arith, c.requires)) (omega (arith, c.requires)))
