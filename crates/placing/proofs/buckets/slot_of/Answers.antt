-- `placing::buckets::slot_of` meets its contract.
-- Assumes nothing.
use mathlib.Core.Path.{refl}
use Rattle.rules.specs.Words.{slot_at}
use Rattle.placing.proofs.buckets.slot_of.Goals as goal

pub returns : goal.returns
unfolding slot_at
returns c = (refl, refl, refl)
