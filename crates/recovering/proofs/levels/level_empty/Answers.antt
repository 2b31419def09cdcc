-- `recovering::levels::level_empty` meets its contract.
-- Assumes nothing.
use mathlib.Core.Path.{sym, ◌∙◌}
use native.Mathlib.Omega.{arith}
use Rattle.std.proofs.Common.{rules}
use Rattle.std.proofs.iter.Serving.{serving}
use Rattle.rules.proofs.Words.Headers.{sizes}
use Rattle.recovering.specs.Found.{zero_token}
use Rattle.scanning.proofs.Ranges.{all_told}
use Rattle.recovering.proofs.Unused.{level-fits, level-whole}
use Rattle.recovering.proofs.levels.level_empty.Goals as goal

pub power-size-requires : goal.power-size-requires
power-size-requires c = omega (arith, sizes _ _ c.requires.0)

pub all-requires-clause-callable : goal.all-requires-clause-callable
all-requires-clause-callable c = grind (serving, level-fits _ _ c.requires.0 _ c.requires.1 c.power-size.ensures.0)

pub returns : goal.returns
unfolding zero_token
returns c =
    all_told (zero_token c.args.t.now) (search rules) (λ j r k. search rules) _ _ c.all.ensures.runs c.power-size.result (omega arith)
    ∙ sym (level-whole _ _ c.power-size.ensures.0)
