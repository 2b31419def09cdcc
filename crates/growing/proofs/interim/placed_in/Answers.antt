-- `growing::interim::placed_in` meets its contract: the first that has a place of all slots is the first of those from s on.
-- Assumes nothing.
use borrow.Enum.Refused.{opened}
use mathlib.Core.Path.{refl, ◌∙◌}
use native.Mathlib.Omega.{arith}
use Rattle.rules.specs.Words.{slot_at}
use Rattle.rules.proofs.Basics.Walks.{slots_end}
use Rattle.rules.proofs.Basics.Along.{along_all, along_over}
use Rattle.rules.proofs.Calls.Meanings.{placing-told_by}
use Rattle.growing.specs.Interim.{placeable_in}
use Rattle.growing.proofs.Searches.{is_nowhere, is_somewhere, none-placed, slot-free, slot-stuck, slot_placed}
use Rattle.growing.proofs.interim.placed_in.Goals as goal
use Rattle.growing.proofs.interim.placed_in.Goals.{then-is_taken+in-Nowhere, else-is_taken}

pub loop-s-init : goal.loop-s-init
unfolding placeable_in
loop-s-init c = along_all _ _

pub interim_placing-found-requires : goal.interim_placing-found-requires
interim_placing-found-requires c = (c.requires.0, c.hashes.ensures)

pub returns-in_default : goal.returns-in_default
unfolding slot_at
returns-in_default c =
    slot_placed _ _ _ _ c.loop-s-test.true c.token-word.ensures c.is_taken.ensures c.if-is_taken.true c.key_at-key.ensures
    c.interim_placing-found.result (placing-told_by c.interim_placing-found.ensures.0) (is_somewhere c.interim_placing-found.result (opened c.in_default.in_default-own.keys2))
    (c.requires.1, c.loop-s-test.true) c.interim_placing-found.ensures.1 c.loop-s.invariant

pub overflow_step-s : goal.overflow_step-s
overflow_step-s c = omega arith

pub loop-s-smaller : goal.loop-s-smaller
loop-s-smaller c = omega arith

pub loop-s-preserved : goal.loop-s-preserved
unfolding slot_at
loop-s-preserved c =
    let i = c.is_taken.ensures in
    c.loop-s.invariant ∙ elim c.if-is_taken.branch [
      | then-is_taken+in-Nowhere u ↦
          slot-stuck _ _ _ _ c.loop-s-test.true c.token-word.ensures i u.if-is_taken.true u.key_at-key.ensures u.interim_placing-found.result
          (placing-told_by u.interim_placing-found.ensures.0) (is_nowhere u.interim_placing-found.result u.in-Nowhere.in-Nowhere-own.keys1)
      | else-is_taken u ↦ slot-free _ _ _ _ c.loop-s-test.true c.token-word.ensures i u.if-is_taken.false
    ]

pub returns : goal.returns
returns c = none-placed _ _ _ _ (c.loop-s.invariant ∙ along_over _ _ _ (slots_end _ _ c.loop-s-test.false)) refl
