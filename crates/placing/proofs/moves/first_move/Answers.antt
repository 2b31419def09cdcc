-- `placing::moves::first_move` meets its contract: the first of the three parts that moves an item.
-- Assumes nothing.
use borrow.Enum.Refused.{opened}
use Rattle.rules.proofs.Words.Headers.{header-state}
use Rattle.placing.specs.Within.{LevelWithin}
use Rattle.placing.proofs.Goals.{top_within, bottom-within}
use Rattle.placing.proofs.Placings.{nowhere, somewhere}
use Rattle.placing.proofs.Moving.{first_part, second-part, third_part}
use Rattle.placing.proofs.moves.first_move.Goals as goal
use Rattle.placing.proofs.moves.first_move.Goals.{After-bottom-lower}

-- the two levels, and that they lie in the table
upper : (c : After-bottom-lower) → LevelWithin c.args.t.now c.top-upper.result
upper c = top_within c.args.t.now _ c.requires c.top-upper.ensures.0

lower : (c : After-bottom-lower) → LevelWithin c.args.t.now c.bottom-lower.result
lower c = bottom-within c.args.t.now _ c.requires c.bottom-lower.ensures.0

pub top-upper-requires : goal.top-upper-requires
top-upper-requires c = header-state _ _ c.requires

pub bottom-lower-requires : goal.bottom-lower-requires
bottom-lower-requires c = header-state _ _ c.requires

pub moves_of_level-in_top-requires : goal.moves_of_level-in_top-requires
moves_of_level-in_top-requires c = (upper (goal.at.moves_of_level-in_top-requires c).After-bottom-lower, upper (goal.at.moves_of_level-in_top-requires c).After-bottom-lower)

pub returns-in_default : goal.returns-in_default
returns-in_default c =
    let m = c.moves_of_level-in_top in
    (first_part _ _ _ c.top-upper.ensures.0 c.bottom-lower.ensures.0 m.result m.ensures.0 (somewhere m.result (opened c.in_default.in_default-own.keys2)), m.ensures.1)

pub moves_of_level-in_bottom-requires : goal.moves_of_level-in_bottom-requires
moves_of_level-in_bottom-requires c = (lower (goal.at.moves_of_level-in_bottom-requires c).After-bottom-lower, lower (goal.at.moves_of_level-in_bottom-requires c).After-bottom-lower)

pub returns-in_default-in_bottom : goal.returns-in_default-in_bottom
returns-in_default-in_bottom c =
    let m = c.moves_of_level-in_bottom in
    let l = c.moves_of_level-in_top in (
      second-part _ _ _ c.top-upper.ensures.0 c.bottom-lower.ensures.0 l.result l.ensures.0 (nowhere l.result c.in-Nowhere.in-Nowhere-own.keys1)
          m.result m.ensures.0 (somewhere m.result (opened c.in_default-in_bottom.in_default-in_bottom-own.keys2)),
      m.ensures.1,
    )

pub moves_of_level-requires : goal.moves_of_level-requires
moves_of_level-requires c = (lower (goal.at.moves_of_level-requires c).After-bottom-lower, upper (goal.at.moves_of_level-requires c).After-bottom-lower)

pub returns : goal.returns
returns c =
    let r = c.moves_of_level in
    let m = c.moves_of_level-in_bottom in
    let l = c.moves_of_level-in_top in (
      third_part _ _ _ c.top-upper.ensures.0 c.bottom-lower.ensures.0 l.result l.ensures.0 (nowhere l.result c.in-Nowhere.in-Nowhere-own.keys1)
          m.result m.ensures.0 r.result (nowhere m.result c.in-Nowhere-in_bottom.in-Nowhere-in_bottom-own.keys1) r.ensures.0,
      r.ensures.1,
    )
