-- `growing::step` meets its contract: it is `step_from` with 0.
-- Assumes nothing.
use Rattle.growing.proofs.Stepping.{step-whole}
use Rattle.growing.proofs.step.Goals as goal

pub returns : goal.returns
returns c = step-whole c.step_from-went.ensures
