-- `collector::report_step` meets its contract.
-- Assumes nothing.
use mathlib.Core.Path.{refl}
use Rattle.collector.proofs.Tellings.{step-listed, step-refused}
use Rattle.collector.proofs.report_step.Goals as goal

pub returns-in-Ok : goal.returns-in-Ok
returns-in-Ok c = step-listed c.step_from-taken.ensures refl c.in-Ok.is

pub returns-in-Err : goal.returns-in-Err
returns-in-Err c = step-refused c.step_from-taken.ensures refl c.in-Err.is c.number.ensures
