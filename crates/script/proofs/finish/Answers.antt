-- `script::finish` meets its contract.
-- Assumes nothing.
use mathlib.Core.Path.{sym}
use lib.Seq.{length-take-le}
use Rattle.script.proofs.Parts.{end-put}
use Rattle.std.proofs.Common.{arith}
use Rattle.script.proofs.finish.Goals as goal

pub slice_bounds-write_all-end-2 : goal.slice_bounds-write_all-end-2
slice_bounds-write_all-end-2 c =
    let s = c.say_at-waiting in sym (length-take-le _ _ (omega (arith, s.ensures.room, s.ensures.next, s.auto.out)))

pub returns : goal.returns
returns c = end-put c.args.run c.end.ensures c.say_at-waiting.ensures
