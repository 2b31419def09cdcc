-- `scanning::items::scan_bucket` meets its contract.
-- Assumes nothing.
use mathlib.Core.Path.{sym, ◌∙◌}
use native.Mathlib.Omega.{arith}
use Rattle.rules.specs.Words.{slot_at}
use Rattle.rules.proofs.Basics.Walks.{slots_next, slots_end}
use Rattle.rules.proofs.Basics.Loops.{fold_whole, fold_next, fold_end}
use Rattle.scanning.proofs.Meeting.{slot-taken, slot-free}
use Rattle.scanning.proofs.items.scan_bucket.Goals as goal
use Rattle.scanning.proofs.items.scan_bucket.Goals.{then-is_taken, else-is_taken}

pub token-word-requires : goal.token-word-requires
token-word-requires c = c.requires.1

pub loop-s-init : goal.loop-s-init
loop-s-init c = fold_whole _ _ _

pub item-all-requires : goal.item-all-requires
item-all-requires c = (c.requires.0, (c.requires.1, c.loop-s-test.true))

pub overflow_step-s : goal.overflow_step-s
overflow_step-s c = omega arith

pub loop-s-smaller : goal.loop-s-smaller
loop-s-smaller c = omega arith

pub loop-s-preserved : goal.loop-s-preserved
unfolding slot_at
loop-s-preserved c =
    let w = c.token-word.ensures in
    let e = sym c.is_taken.ensures in
    let p = c.args.p in
    c.loop-s.invariant
    ∙ fold_next _ _ _ (slots_next _ _ c.loop-s-test.true)
    (elim c.if-is_taken.branch [
      | then-is_taken u ↦ slot-taken _ _ p _ _ w (e ∙ u.if-is_taken.true) ∙ sym (u.all-is ∙ u.item-all.ensures)
      | else-is_taken u ↦ slot-free _ _ p _ _ w (e ∙ u.if-is_taken.false) ∙ sym u.all-is
    ])

pub returns : goal.returns
returns c = sym (c.loop-s.invariant ∙ fold_end _ _ _ _ (slots_end _ _ c.loop-s-test.false))
