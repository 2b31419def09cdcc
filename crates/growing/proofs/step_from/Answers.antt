-- `growing::step_from` meets its contract.
-- Assumes nothing.
use Rattle.listing.proofs.Outcomes.{change-long}
use Rattle.growing.proofs.Stepping.{step_shut, step_open}
use Rattle.reading.proofs.Gated.{open_headed}
use Rattle.growing.proofs.step_from.Goals as goal

pub step_at-requires : goal.step_at-requires
step_at-requires c =
    let q = c.change_gate.ensures in
    (change-long _ _ q.0 c.in-Ok.is, open_headed _ _ q.1 c.in-Ok.is)

pub returns-in-Err : goal.returns-in-Err
returns-in-Err c = step_shut _ _ _ c.change_gate.ensures.0 c.in-Err.is c.unplaced.ensures

pub returns-in-Ok : goal.returns-in-Ok
returns-in-Ok c =
    let q = c.change_gate.ensures in
    let y = rw c.in-Ok.is at q.1 in
    step_open _ _ _ q.0 c.in-Ok.is y.0 c.step_at.ensures
