-- `reading::levels::bottom` meets its contract.
-- Assumes nothing.
use mathlib.Core.Path.{refl}
use native.Mathlib.Omega.{arith}
use Rattle.rules.specs.Words.{bottom_of}
use Rattle.rules.proofs.Words.States.{state-fits}
use Rattle.reading.proofs.levels.bottom.Goals as goal

pub overflow_sub-result : goal.overflow_sub-result
overflow_sub-result c = (state-fits 20 _ c.requires).0

pub returns : goal.returns
unfolding bottom_of
returns c = (refl, omega (arith, state-fits 20 _ c.requires))
