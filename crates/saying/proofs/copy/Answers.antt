-- `saying::copy` meets its contract.
-- Assumes nothing.
use Rattle.std.proofs.Common.{arith}
use Rattle.saying.proofs.Puts.{copied}
use Rattle.saying.proofs.copy.Goals as goal

pub returns : goal.returns
returns c = copied _ _ c.args.text.now c.requires (omega arith) c.copy_from_slice.ensures.after
