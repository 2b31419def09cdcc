-- `saying::put_answer` meets its contract, case by case.
-- Assumes nothing.
use Rattle.std.proofs.Common.{arith}
use Rattle.saying.specs.Texts.{text_of}
use Rattle.saying.proofs.LinesPut.{nothing_put, last_line}
use Rattle.saying.proofs.put_answer.Goals as goal

pub returns-in-Nothing : goal.returns-in-Nothing
returns-in-Nothing c = rw c.in-Nothing.is (nothing_put _ (omega arith))

pub returns-in-Created : goal.returns-in-Created
unfolding text_of
returns-in-Created c = rw c.in-Created.is c.created.ensures

pub returns-in-Changed : goal.returns-in-Changed
unfolding text_of
returns-in-Changed c = rw c.in-Changed.is c.changed.ensures.0

pub returns-in-Kept : goal.returns-in-Kept
unfolding text_of
returns-in-Kept c = rw c.in-Kept.is c.kept.ensures

pub returns-in-Found : goal.returns-in-Found
unfolding text_of
returns-in-Found c = rw c.in-Found.is c.found.ensures

pub returns-in-Events : goal.returns-in-Events
unfolding text_of
returns-in-Events c = rw c.in-Events.is (last_line _ c.put_line.ensures.0)

pub returns-in-Bad : goal.returns-in-Bad
unfolding text_of
returns-in-Bad c = rw c.in-Bad.is (last_line _ c.put_line-in-Bad.ensures.0)
