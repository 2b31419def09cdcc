-- `convert::read_all` meets its contract.
-- Assumes nothing.
use Rattle.std.proofs.Common.{arith}
use Rattle.replaying.proofs.Enough.{room_is_enough}
use Rattle.convert.proofs.read_all.Goals as goal

pub returns : goal.returns
returns c = (rw c.ready.ensures at c.read_all.ensures, room_is_enough 7 _ (omega (arith, c.requires)))
