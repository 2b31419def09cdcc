-- `converting::fill_bucket` meets its contract.
-- Assumes nothing.
use Prim.Native.Nat.{◌+◌}
use mathlib.Core.Path.{sym, ◌∙◌}
use mathlib.Core.List.{[], ◌∷◌, ◌++◌}
use native.Mathlib.Omega.{arith}
use lib.ListN.{drop}
use Rattle.rules.specs.Words.{slot_at, slots_in}
use Rattle.rules.proofs.Basics.Walks.{slots_end}
use Rattle.converting.specs.Fillings.{items_in}
use Rattle.converting.proofs.Filling.{Left, left_whole, left_others, left_stuck, slot-first, slot_skipped, none_left, item_unsought, put_fills}
use Rattle.reading.proofs.Gated.{passed_on}
use Rattle.converting.proofs.fill_bucket.Goals as goal
use Rattle.converting.proofs.fill_bucket.Goals.{Then-is_taken, then-is_taken+in_ok-put_item, else-is_taken}

-- slot s is taken: its item is the first that is left
next : (c : Then-is_taken) →
    let a = c.args in
    Left a.t.now a.to a.second.now (items_in a.t.now a.h (slots_in a.p)) c.loop-s.second
    ((slot_at a.p c.loop-s.s ∷ []) ++ items_in a.t.now a.h (drop (c.loop-s.s + 1) (slots_in a.p)))
next c =
    let l = c.loop-s in
    slot-first _ _ _ _ _ _ _ _ c.loop-s-test.true _ l.invariant.1 l.invariant.0 (sym c.is_taken.ensures ∙ c.if-is_taken.true)

pub token-word-requires : goal.token-word-requires
token-word-requires c = c.requires.0

pub loop-s-init : goal.loop-s-init
loop-s-init c = (left_whole _ _ _ _ c.requires.1, c.token-word.ensures)

pub key_at-requires : goal.key_at-requires
key_at-requires c = (c.requires.0, c.loop-s-test.true)

pub record_at-requires : goal.record_at-requires
record_at-requires c = (c.requires.0, c.loop-s-test.true)

pub put_item-requires : goal.put_item-requires
unfolding slot_at
put_item-requires c = item_unsought _ _ _ _ _ c.key_at.ensures c.record_at.ensures _ _ (next (goal.at.put_item-requires c).Then-is_taken).may

pub returns-in_err-put_item : goal.returns-in_err-put_item
unfolding slot_at
returns-in_err-put_item c =
    rw (passed_on c.from_residual.ensures.1)
    (left_stuck _ _ _ _ _ _ _ (next (goal.at.returns-in_err-put_item c).Then-is_taken) _ _
    (put_fills _ _ _ _ _ c.key_at.ensures c.record_at.ensures _ _ c.in_err-put_item.ensures))

pub overflow_step-s : goal.overflow_step-s
overflow_step-s c = omega arith

pub loop-s-smaller : goal.loop-s-smaller
loop-s-smaller c = omega arith

pub loop-s-preserved : goal.loop-s-preserved
unfolding slot_at
loop-s-preserved c = (
  elim c.if-is_taken.branch [
    | then-is_taken+in_ok-put_item u ↦
        (let l = c.loop-s in
        let first = slot-first _ _ _ _ _ _ _ _ c.loop-s-test.true _ l.invariant.1 l.invariant.0 (sym c.is_taken.ensures ∙ u.if-is_taken.true) in
        rw u.second-is (left_others _ _ _ _ _ _ _ first _ (put_fills _ _ _ _ _ u.key_at.ensures u.record_at.ensures _ _ u.in_ok-put_item.ensures)))
    | else-is_taken u ↦
        rw u.second-is (slot_skipped _ _ _ _ _ _ _ _ c.loop-s-test.true _ c.loop-s.invariant.1 c.loop-s.invariant.0
        (sym c.is_taken.ensures ∙ u.if-is_taken.false))
  ],
  c.loop-s.invariant.1,
)

pub returns : goal.returns
returns c = none_left _ _ _ _ _ _ _ (slots_end _ _ c.loop-s-test.false) c.loop-s.invariant.0
