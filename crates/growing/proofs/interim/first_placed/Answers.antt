-- `growing::interim::first_placed` meets its contract: the item that the step takes is the first that has a place from bucket i on.
-- Assumes nothing.
use borrow.Enum.Refused.{opened}
use Prim.Native.Nat.{◌+◌, ◌-◌}
use mathlib.Core.Path.{refl, ◌∙◌}
use native.Mathlib.Omega.{arith}
use Rattle.rules.specs.Words.{place_at}
use Rattle.rules.proofs.Words.Headers.{header-state}
use Rattle.reading.specs.Within.{BucketWithin}
use Rattle.growing.proofs.Searches.{bucket-within, is_nowhere, is_somewhere, none-placed, found-over, bucket-stuck}
use Rattle.growing.proofs.Searches.{bucket-placed, bucket-empty, item-none, placeable-all}
use Rattle.growing.proofs.interim.first_placed.Goals as goal
use Rattle.growing.proofs.interim.first_placed.Goals.{then-any_taken+in-Nowhere, else-any_taken}
use Rattle.growing.proofs.interim.first_placed.Goals.{In-loop-i}

pub interim-level-requires : goal.interim-level-requires
interim-level-requires c = (header-state _ _ c.requires.0.good, c.requires.1)

pub power-m-requires : goal.power-m-requires
power-m-requires c = omega (arith, c.interim-level.ensures.1)

pub loop-i-init : goal.loop-i-init
loop-i-init c = placeable-all _ _ _ c.requires.1

-- its buckets lie in the table
within : (c : In-loop-i) →
    BucketWithin c.args.t.now (c.power-m.result - 1 + c.loop-i.i)
within c = bucket-within _ _ c.requires.0.good c.requires.1 c.interim-level.ensures.0 c.power-m.ensures.0 c.loop-i-test.true

pub token-requires : goal.token-requires
token-requires c = within (goal.at.token-requires c).In-loop-i

pub placed_in-found-requires : goal.placed_in-found-requires
placed_in-found-requires c = (c.requires.0, within (goal.at.placed_in-found-requires c).In-loop-i)

pub returns-in_default : goal.returns-in_default
unfolding place_at
returns-in_default c =
    bucket-placed _ _ _ _ c.interim-level.ensures.0 c.power-m.ensures.0 c.loop-i-test.true _ refl c.placed_in-found.result
    c.placed_in-found.ensures (is_somewhere c.placed_in-found.result.placing (opened c.in_default.in_default-own.keys2)) c.loop-i.invariant

pub overflow_step-i : goal.overflow_step-i
overflow_step-i c = omega arith

pub loop-i-smaller : goal.loop-i-smaller
loop-i-smaller c = omega arith

pub loop-i-preserved : goal.loop-i-preserved
unfolding place_at
loop-i-preserved c =
    let l = c.interim-level.ensures.0 in
    let m = c.power-m.ensures.0 in
    c.loop-i.invariant ∙ elim c.if-any_taken.branch [
      | then-any_taken+in-Nowhere u ↦
          bucket-stuck _ _ _ _ l m c.loop-i-test.true _ refl u.placed_in-found.result u.placed_in-found.ensures
          (is_nowhere u.placed_in-found.result.placing u.in-Nowhere.in-Nowhere-own.keys1)
      | else-any_taken u ↦ bucket-empty _ _ _ _ l m c.loop-i-test.true (item-none _ _ _ c.token.ensures c.any_taken.ensures u.if-any_taken.false)
    ]

pub returns : goal.returns
returns c = none-placed _ _ _ _ (c.loop-i.invariant ∙ found-over _ _ _ _ c.interim-level.ensures.0 c.power-m.ensures.0 c.loop-i-test.false) refl
