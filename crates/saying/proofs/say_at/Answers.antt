-- `saying::say_at` meets its contract.
-- Assumes nothing.
use Rattle.std.proofs.Common.{arith}
use Rattle.saying.proofs.LinesPut.{nothing_put}
use Rattle.saying.proofs.say_at.Goals as goal

pub returns-in-Nothing : goal.returns-in-Nothing
returns-in-Nothing c = rw c.in-Nothing.is (nothing_put _ (omega arith))
