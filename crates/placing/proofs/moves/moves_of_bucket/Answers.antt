-- `placing::moves::moves_of_bucket` meets its contract: the first move of all slots is the first of those from s on.
-- Assumes nothing.
use borrow.Enum.Refused.{opened}
use mathlib.Core.Path.{◌≡◌, sym, ◌∙◌}
use native.Mathlib.Omega.{arith}
use Rattle.rules.specs.Words.{slot_at}
use Rattle.rules.proofs.Basics.Walks.{slots_next, slots_end}
use Rattle.placing.specs.Search.{optional, item_move}
use Rattle.rules.proofs.Basics.Along.{along_pass, along_hit, along_over}
use Rattle.placing.proofs.Placings.{nowhere, somewhere}
use Rattle.placing.proofs.Moving.{item_of, bucket-all}
use Rattle.placing.proofs.moves.moves_of_bucket.Goals as goal
use Rattle.placing.proofs.moves.moves_of_bucket.Goals.{After-move_item-found}

-- the item of slot s was tried
moved : (c : After-move_item-found) →
    let a = c.args in
    optional c.move_item-found.result ≡ item_move a.t.now a.h a.way a.items (slot_at a.p c.loop-s.s)
moved c = c.move_item-found.ensures.0 ∙ item_of _ _ _ _ _ _ c.slot_of.ensures.0

pub loop-s-init : goal.loop-s-init
loop-s-init c = bucket-all _ _ _ _ _

pub slot_of-requires : goal.slot_of-requires
slot_of-requires c = omega arith

pub offset_bounds-items-s : goal.offset_bounds-items-s
offset_bounds-items-s c = omega arith

pub move_item-found-requires : goal.move_item-found-requires
move_item-found-requires c = omega arith

pub returns-in_default : goal.returns-in_default
returns-in_default c =
    let s = somewhere c.move_item-found.result (opened c.in_default.in_default-own.keys2) in
    (s ∙ sym (c.loop-s.invariant ∙ along_hit _ _ _ (slots_next _ _ c.loop-s-test.true) (sym (moved (goal.at.returns-in_default c).After-move_item-found) ∙ s)), c.move_item-found.ensures.1)

pub overflow_step-s : goal.overflow_step-s
overflow_step-s c = omega arith

pub loop-s-smaller : goal.loop-s-smaller
loop-s-smaller c = omega arith

pub loop-s-preserved : goal.loop-s-preserved
loop-s-preserved c = c.loop-s.invariant ∙ along_pass _ _ _ (slots_next _ _ c.loop-s-test.true) (sym (moved (goal.at.loop-s-preserved c).After-move_item-found) ∙ nowhere c.move_item-found.result c.in-Nowhere.in-Nowhere-own.keys1)

pub returns : goal.returns
returns c = (sym (c.loop-s.invariant ∙ along_over _ _ _ (slots_end _ _ c.loop-s-test.false)), tt)
