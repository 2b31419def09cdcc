-- `taking::read_all` meets its contract: what takes the parts stands behind those that were read.
-- Assumes nothing.
use Rattle.running.specs.Runs.{Behind}
use Rattle.running.specs.Inputs.{standing}
use Rattle.taking.proofs.read_all.Given as goal

abbrev pub invariant-loop-parts : goal.invariant-loop-parts
invariant-loop-parts g l = Behind g.T.Taker.after_part (standing l.initial.taker l.initial.room l.initial.line) l._parts (standing l.taker l.room l.line)
