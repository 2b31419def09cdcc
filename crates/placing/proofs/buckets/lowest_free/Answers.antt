-- `placing::buckets::lowest_free` meets its contract: of any four records, the first free one is the lowest free slot of the token word.
-- Assumes nothing.
use mathlib.Core.Path.{◌∙◌}
use native.Mathlib.Omega.{arith}
use Rattle.placing.proofs.Choosing.{first_record}
use Rattle.placing.proofs.buckets.lowest_free.Goals as goal

pub returns : goal.returns
returns c = let r = c.lowest_free.ensures in (r.0 ∙ first_record _ _ _ (omega (arith, c.well_formed.1.1.0.1.0.1)), r.1)
