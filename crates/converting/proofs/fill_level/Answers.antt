-- `converting::fill_level` meets its contract: the items of the buckets from the i-th on are left.
-- Assumes nothing.
use Prim.Native.Nat.{◌+◌, ◌-◌}
use mathlib.Core.Path.{◌≡◌}
use mathlib.Core.List.{◌++◌}
use native.Mathlib.Omega.{arith}
use Rattle.rules.specs.Words.{slots_in, place_at}
use Rattle.rules.proofs.Words.Headers.{next-bucket-fits}
use Rattle.reading.specs.Within.{BucketWithin}
use Rattle.converting.proofs.Filling.{all_left, none_left, slots_along, along_next, along_end, places_on, level-whole, bucket-next, bucket-end}
use Rattle.converting.proofs.Filling.{block_may, block_done, block_stuck}
use Rattle.reading.proofs.Gated.{passed_on}
use Rattle.converting.proofs.fill_level.Goals as goal
use Rattle.converting.proofs.fill_level.Goals.{In-loop-i}

-- the bucket that is filled from lies in the table
fits : (c : In-loop-i) →
    BucketWithin c.args.t.now (c.power-size.result - 1 + c.loop-i.i)
fits c =
    let g = c.requires in
    next-bucket-fits _ _ g.0 _ g.1 c.power-size.ensures.0 _ c.loop-i-test.true

-- its slots are the first of those that are left
next : (c : In-loop-i) →
    let l = c.args.l in
    slots_along slots_in (places_on l c.power-size.result) c.loop-i.i
    ≡ slots_in (place_at l (c.power-size.result - 1 + c.loop-i.i)) ++ slots_along slots_in (places_on l c.power-size.result) (c.loop-i.i + 1)
next c = along_next _ _ _ _ (bucket-next _ _ _ c.loop-i-test.true)

pub power-size-requires : goal.power-size-requires
power-size-requires c = let g = c.requires in omega (arith, g.0.capacity.1, g.1)

pub loop-i-init : goal.loop-i-init
loop-i-init c = let g = c.requires in all_left _ _ _ _ _ _ (level-whole _ _ c.power-size.ensures.0) g.2

pub overflow_sub-p : goal.overflow_sub-p
overflow_sub-p c = omega arith

pub overflow_add-p : goal.overflow_add-p
overflow_add-p c = omega (arith, fits (goal.at.overflow_add-p c).In-loop-i)

pub fill_bucket-requires : goal.fill_bucket-requires
unfolding place_at
fill_bucket-requires c = (fits (goal.at.fill_bucket-requires c).In-loop-i, block_may _ _ _ _ _ _ _ _ _ (next (goal.at.fill_bucket-requires c).In-loop-i) c.loop-i.invariant)

pub returns-in_err-fill_bucket : goal.returns-in_err-fill_bucket
unfolding place_at
returns-in_err-fill_bucket c = rw (passed_on c.from_residual.ensures.1)
    (block_stuck _ _ _ _ _ _ _ _ _ (next (goal.at.returns-in_err-fill_bucket c).In-loop-i) c.loop-i.invariant _ _ c.in_err-fill_bucket.ensures)

pub overflow_step-i : goal.overflow_step-i
overflow_step-i c = omega arith

pub loop-i-smaller : goal.loop-i-smaller
loop-i-smaller c = omega arith

pub loop-i-preserved : goal.loop-i-preserved
unfolding place_at
loop-i-preserved c = block_done _ _ _ _ _ _ _ _ _ (next (goal.at.loop-i-preserved c).In-loop-i) c.loop-i.invariant _ c.in_ok-fill_bucket.ensures

pub returns : goal.returns
returns c = none_left _ _ _ _ _ _ _ (along_end _ _ _ (bucket-end _ _ _ c.loop-i-test.false)) c.loop-i.invariant
