-- `convert::Course::take_part` meets its contract.
-- Assumes nothing.
use Rattle.convert.specs.Parts.{standing}
use Rattle.convert.proofs.Parts.{Passed}
use Rattle.convert.proofs.CourseTaker.take_part.Given as goal

abbrev pub invariant-loop-byte : goal.invariant-loop-byte
invariant-loop-byte l = Passed (standing l.initial.course l.initial.room l.initial.line) l.part l.byte-index (standing l.course l.room l.line)
