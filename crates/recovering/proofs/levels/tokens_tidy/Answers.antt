-- `recovering::levels::tokens_tidy` meets its contract.
-- Assumes nothing.
use Prim.Native.Nat.{◌-◌}
use mathlib.Core.Path.{sym, ◌∙◌}
use native.Mathlib.Omega.{arith}
use Rattle.std.proofs.Common.{rules}
use Rattle.std.proofs.iter.Serving.{serving}
use Rattle.rules.specs.Words.{meant_of}
use Rattle.rules.proofs.Words.Headers.{sizes}
use Rattle.recovering.specs.Found.{tidy_token}
use Rattle.scanning.proofs.Ranges.{all_told}
use Rattle.recovering.proofs.Unused.{table-fits, table-whole}
use Rattle.recovering.proofs.levels.tokens_tidy.Goals as goal

pub overflow_add-h : goal.overflow_add-h
overflow_add-h c = omega (arith, sizes _ _ c.requires)

pub all-requires-clause-callable : goal.all-requires-clause-callable
all-requires-clause-callable c = grind (serving, table-fits _ _ c.requires c.power.ensures.0)

pub returns : goal.returns
unfolding tidy_token meant_of
returns c =
    all_told (tidy_token c.args.t.now c.args.h) (search rules) (λ j r k. search rules) _ _ c.all.ensures.runs (c.power.result - 1) (omega arith)
    ∙ sym (table-whole _ _ c.power.ensures.0)
