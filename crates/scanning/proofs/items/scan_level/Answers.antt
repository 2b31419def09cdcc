-- `scanning::items::scan_level` meets its contract.
-- Assumes nothing.
use Prim.Native.Nat.{◌+◌, ◌-◌}
use mathlib.Core.Path.{refl, sym, ◌∙◌}
use native.Mathlib.Omega.{arith}
use Rattle.rules.proofs.Words.Headers.{next-bucket-fits}
use Rattle.rules.proofs.Basics.Walks.{from_next, from_end}
use Rattle.rules.proofs.Basics.Loops.{fold_next, fold_end}
use Rattle.reading.specs.Within.{BucketWithin}
use Rattle.scanning.proofs.Meeting.{level-whole, bucket_met}
use Rattle.scanning.proofs.items.scan_level.Goals as goal
use Rattle.scanning.proofs.items.scan_level.Goals.{In-loop-i}

-- the bucket that is looked at lies in the table
fits : (c : In-loop-i) →
    let a = c.args in BucketWithin a.t.now (c.power-size.result - 1 + c.loop-i.i)
fits c =
    let g = c.requires in
    next-bucket-fits _ _ g.0 _ g.1 c.power-size.ensures.0 _ c.loop-i-test.true

pub power-size-requires : goal.power-size-requires
power-size-requires c = let g = c.requires in omega (arith, g.0.capacity.1, g.1)

pub loop-i-init : goal.loop-i-init
loop-i-init c = level-whole _ _ _ _ c.power-size.ensures.0

pub overflow_sub-p : goal.overflow_sub-p
overflow_sub-p c = omega arith

pub overflow_add-p : goal.overflow_add-p
overflow_add-p c = omega (arith, fits (goal.at.overflow_add-p c).In-loop-i)

pub scan_bucket-all-requires : goal.scan_bucket-all-requires
scan_bucket-all-requires c = (c.requires.0, fits (goal.at.scan_bucket-all-requires c).In-loop-i)

pub overflow_step-i : goal.overflow_step-i
overflow_step-i c = omega arith

pub loop-i-smaller : goal.loop-i-smaller
loop-i-smaller c = omega arith

pub loop-i-preserved : goal.loop-i-preserved
loop-i-preserved c =
    c.loop-i.invariant
    ∙ fold_next _ _ _ (from_next _ _ _ c.loop-i-test.true) (sym (c.scan_bucket-all.ensures ∙ bucket_met _ _ _ _ _ refl))

pub returns : goal.returns
returns c = sym (c.loop-i.invariant ∙ fold_end _ _ _ _ (from_end _ _ _ c.loop-i-test.false))
