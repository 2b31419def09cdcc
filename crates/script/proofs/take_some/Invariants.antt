-- `script::take_some` meets its contract: before byte `taken`, the text of those before it is at the front of the buffer.
-- Assumes nothing.
use Rattle.script.proofs.Parts.{Taking}
use Rattle.script.proofs.take_some.Given as goal

abbrev pub invariant-loop-taken : goal.invariant-loop-taken
invariant-loop-taken l =
    Taking (record { run = l.initial.run; room = l.initial.room; line = l.initial.line }) l.text (record { run = l.run; room = l.room; line = l.line }) l.taken l.waiting l.out
