-- `convert::Course::take_part` meets its contract.
-- Assumes nothing.
use mathlib.Core.Path.{sym, ◌∙◌}
use Rattle.convert.proofs.Parts.{passed_none, passed_known, passed_more, passed_all}
use Rattle.convert.proofs.CourseTaker.take_part.Goals as goal

pub loop-byte-init : goal.loop-byte-init
loop-byte-init c = passed_none _ _

pub returns-then-known : goal.returns-then-known
returns-then-known c = passed_known c.loop-byte.invariant (sym c.known.ensures ∙ c.if-known.true)

pub loop-byte-preserved : goal.loop-byte-preserved
loop-byte-preserved c =
    let goes = sym c.known.ensures ∙ c.if-known.false in
    passed_more c.loop-byte.invariant c.loop-byte-test.true goes c.take_byte-taken.ensures c.ended_by.ensures

pub returns : goal.returns
returns c = passed_all c.loop-byte.invariant c.loop-byte-test.false
