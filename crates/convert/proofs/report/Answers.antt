-- `convert::report` meets its contract.
-- Assumes nothing.
use mathlib.Core.Path.{refl}
use Rattle.saying.proofs.LinesPut.{line-put}
use Rattle.convert.specs.declared.Ending.TheVariants.{Open}
use Rattle.convert.proofs.Ways.{told_as}
use Rattle.convert.proofs.report.Goals as goal

pub returns-in-Open : goal.returns-in-Open
returns-in-Open c = told_as c.args.course _ Open c.last_ending.ensures c.in-Open.is c.put_table.ensures.put

pub returns-in-Unmade : goal.returns-in-Unmade
returns-in-Unmade c =
    let one = line-put "made" c.number.result _ c.number.ensures c.put_line.ensures.0 in
    told_as c.args.course _ _ c.last_ending.ensures c.in-Unmade.is one

pub returns-in-Bad : goal.returns-in-Bad
returns-in-Bad c = told_as c.args.course _ _ c.last_ending.ensures c.in-Bad.is (line-put "bad" _ _ refl c.put_line-in-Bad.ensures.0)
