-- `script::read_all` meets its contract: the run stands behind the parts that were read.
-- Assumes nothing.
use Rattle.running.specs.Runs.{after_bytes, Behind}
use Rattle.script.specs.Parts.{begun}
use Rattle.script.proofs.read_all.Given as goal

abbrev pub invariant-loop-parts : goal.invariant-loop-parts
invariant-loop-parts l = Behind after_bytes (begun l.initial.room l.initial.line) l._parts (record { run = l.run; room = l.room; line = l.line })
