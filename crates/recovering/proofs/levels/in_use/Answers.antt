-- `recovering::levels::in_use` meets its contract.
-- Assumes nothing.
use mathlib.Core.Path.{refl}
use Rattle.std.proofs.Common.{rules}
use Rattle.rules.specs.Words.{levels_in_use, exponent_in_use}
use Rattle.scanning.proofs.Ranges.{any_told}
use Rattle.recovering.proofs.Unused.{uses}
use Rattle.recovering.proofs.levels.in_use.Goals as goal

pub returns : goal.returns
unfolding exponent_in_use
returns c = any_told (uses c.args.e) (levels_in_use c.args.s) (search rules) (λ j r k. search rules) _ _ c.any.ensures.runs refl c.level_count.ensures.0
