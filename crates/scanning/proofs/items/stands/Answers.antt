-- `scanning::items::stands` meets its contract.
-- Assumes nothing.
use mathlib.Core.Path.{refl, sym, ◌∙◌}
use Rattle.std.proofs.Common.{rules}
use Rattle.rules.specs.Words.{levels_in_use}
use Rattle.scanning.proofs.Meeting.{at_place, at_any}
use Rattle.scanning.proofs.Ranges.{any_told}
use Rattle.scanning.proofs.items.stands.Goals as goal

pub returns : goal.returns
returns c =
    let a = c.args in
    any_told (at_place a.x a.hash) (levels_in_use a.s) (search rules) (λ j r k. search rules) _ _ c.any.ensures.runs refl c.level_count.ensures.0
    ∙ sym (at_any _ _ _)
