-- `reporting::report` meets its contract.
-- Assumes nothing.
use Rattle.saying.proofs.LinesPut.{line-put}
use Rattle.reporting.proofs.Putting.{reported}
use Rattle.rules.specs.Answers.{number_of}
use Rattle.std.proofs.Common.{refl}
use Rattle.reporting.proofs.report.Goals as goal

pub returns-in-Unmade : goal.returns-in-Unmade
returns-in-Unmade c =
    reported _ _ c.in-Unmade.is
    (line-put "made" c.number.result (number_of c.in-Unmade.refusal) c.number.ensures c.put_line.ensures.0)

pub returns-in-Unrecovered : goal.returns-in-Unrecovered
returns-in-Unrecovered c =
    reported _ _ c.in-Unrecovered.is
    (line-put "answer" c.number-in-Unrecovered.result (number_of c.in-Unrecovered.refusal) c.number-in-Unrecovered.ensures
    c.put_line-in-Unrecovered.ensures.0)

pub returns-in-Bad : goal.returns-in-Bad
returns-in-Bad c =
    reported _ _ c.in-Bad.is
    (line-put "bad" c.in-Bad.line c.in-Bad.line refl c.put_line-in-Bad.ensures.0)
