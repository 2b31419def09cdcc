-- `placing::moves::move_item` meets its contract.
-- Assumes nothing.
use mathlib.Core.Path.{◌∙◌}
use native.Mathlib.Omega.{arith}
use Rattle.placing.proofs.Goals.{goals-within}
use Rattle.placing.proofs.Moving.{item-goals}
use Rattle.placing.proofs.moves.move_item.Goals as goal

pub move_to-requires : goal.move_to-requires
move_to-requires c =
    let g = c.goals_of-goals.ensures in
    let a = c.args in
    (omega (arith, g.1), λ p i. goals-within a.t.now a.way c.requires.0 _ a.from p (rw g.0 at i), c.requires.1)

pub returns : goal.returns
returns c =
    let g = c.goals_of-goals.ensures in
    let e = c.move_to.ensures in
    (e.0 ∙ item-goals _ _ _ _ _ c.hashes.ensures g.0, e.1)
