-- `growing::interim::first_item` meets its contract.
-- Assumes nothing.
use Prim.Native.Nat.{◌+◌, ◌-◌}
use mathlib.Core.Path.{refl, sym, ap, ◌∙◌}
use native.Mathlib.Omega.{arith}
use Rattle.rules.specs.Words.{slot_at, place_at}
use Rattle.rules.proofs.Words.Headers.{header-state}
use Rattle.reading.specs.Within.{BucketWithin}
use Rattle.reading.specs.Within.{slot_found}
use Rattle.growing.proofs.Searches.{few-buckets, bucket-within, found_hit, found_pass, found-over, items_from_lem}
use Rattle.growing.proofs.Searches.{item-here, item_low, item-none}
use Rattle.growing.proofs.interim.first_item.Goals as goal
use Rattle.growing.proofs.interim.first_item.Goals.{In-loop-i}

-- its buckets lie in the table
within : (c : In-loop-i) →
    BucketWithin c.args.t.now (c.power-m.result - 1 + c.loop-i.i)
within c = bucket-within _ _ c.requires.0 c.requires.1 c.interim-level.ensures.0 c.power-m.ensures.0 c.loop-i-test.true

pub interim-level-requires : goal.interim-level-requires
interim-level-requires c = (header-state _ _ c.requires.0, c.requires.1)

pub power-m-requires : goal.power-m-requires
power-m-requires c = omega (arith, c.interim-level.ensures.1)

pub loop-i-init : goal.loop-i-init
loop-i-init c = refl

pub overflow_sub-j : goal.overflow_sub-j
overflow_sub-j c = omega (arith, c.power-m.ensures.1)

pub overflow_add-j : goal.overflow_add-j
overflow_add-j c =
    let l = few-buckets _ _ c.power-m.ensures.0 c.interim-level.ensures.1 in
    omega arith

pub token-word-requires : goal.token-word-requires
token-word-requires c = within (goal.at.token-word-requires c).In-loop-i

pub returns-then-any_taken : goal.returns-then-any_taken
unfolding slot_at place_at
returns-then-any_taken c =
    let w = c.token-word.ensures in
    let v = c.any_taken.ensures in
    let some = c.if-any_taken.true in
    let z = c.lowest_taken.ensures in (
      sym (ap slot_found (items_from_lem _ _ _ c.requires.1 ∙ c.loop-i.invariant
          ∙ found_hit _ _ _ _ c.interim-level.ensures.0 c.power-m.ensures.0 c.loop-i-test.true
          (item-here _ _ _ w v c.interim-level.ensures.0 some z))),
      (within (goal.at.returns-then-any_taken c).In-loop-i, item_low _ _ _ w v some z),
    )

pub overflow_step-i : goal.overflow_step-i
overflow_step-i c = omega arith

pub loop-i-smaller : goal.loop-i-smaller
loop-i-smaller c = omega arith

pub loop-i-preserved : goal.loop-i-preserved
loop-i-preserved c =
    c.loop-i.invariant ∙ found_pass _ _ _ _ c.interim-level.ensures.0 c.power-m.ensures.0 c.loop-i-test.true
    (item-none _ _ _ c.token-word.ensures c.any_taken.ensures c.if-any_taken.false)

pub returns : goal.returns
returns c = (
  sym (ap slot_found (items_from_lem _ _ _ c.requires.1 ∙ c.loop-i.invariant
      ∙ found-over _ _ _ _ c.interim-level.ensures.0 c.power-m.ensures.0 c.loop-i-test.false)),
  tt,
)
