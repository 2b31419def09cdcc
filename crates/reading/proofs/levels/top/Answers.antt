-- `reading::levels::top` meets its contract.
-- Assumes nothing.
use mathlib.Core.Path.{refl}
use Rattle.rules.specs.Words.{top_of}
use Rattle.rules.proofs.Words.States.{state-fits}
use Rattle.reading.proofs.levels.top.Goals as goal

pub returns : goal.returns
unfolding top_of
returns c = (refl, (state-fits 20 _ c.requires).1)
