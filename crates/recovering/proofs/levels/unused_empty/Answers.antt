-- `recovering::levels::unused_empty` meets its contract.
-- Assumes nothing.
use Prim.Native.Nat.{◌+◌}
use mathlib.Core.Path.{sym, ◌∙◌}
use native.Mathlib.Omega.{arith}
use Rattle.std.proofs.Common.{rules}
use Rattle.scanning.proofs.Ranges.{all_told}
use Rattle.recovering.proofs.Unused.{level_fine, unused-whole}
use Rattle.recovering.proofs.levels.unused_empty.Goals as goal

pub returns : goal.returns
returns c =
    all_told (level_fine c.args.t.now c.args.h) (search rules) (λ j r k. search rules) _ _ c.all.ensures.runs (c.args.h.c + 1) (omega arith)
    ∙ sym (unused-whole _ _)
