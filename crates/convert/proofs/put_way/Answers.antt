-- `convert::put_way` meets its contract.
-- Assumes nothing.
use Rattle.convert.proofs.Ways.{way_put}
use native.Mathlib.Omega.{arith}
use Rattle.convert.proofs.put_way.Goals as goal

pub returns : goal.returns
returns c =
    let told = c.conversion_words-words in
    (way_put c.args.answer told.result told.ensures c.put_line-second.ensures.0 c.put_line.ensures.0, omega arith)
