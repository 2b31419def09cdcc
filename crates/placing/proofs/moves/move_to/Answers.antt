-- `placing::moves::move_to` meets its contract: the first free slot along all goals is the first along those from i on.
-- Assumes nothing.
use mathlib.Core.Path.{◌∙◌}
use Prim.Native.Nat.{◌≤◌}
use native.Mathlib.Omega.{arith}
use lib.ListN.{length, get_or}
use Rattle.rules.proofs.Basics.Walks.{among_first}
use Rattle.reading.specs.Within.{BucketWithin}
use Rattle.rules.proofs.Basics.Along.{along_all, first_pass, first_hit, first-over}
use Rattle.placing.proofs.Goals.{past}
use Rattle.placing.proofs.Placings.{not_free, is_free}
use Rattle.placing.proofs.Moving.{item-moves, item-stays}
use Rattle.placing.proofs.moves.move_to.Goals as goal
use Rattle.placing.proofs.moves.move_to.Goals.{In-loop-i, Start}

-- the goals that are tried are there
fits : (c : Start) → c.args.n ≤ length c.args.goals
fits c = omega (arith, c.requires.0, c.well_formed.1.1.1.0.1.0.1)

-- and the one tried lies in the table
within : (c : In-loop-i) →
    let a = c.args in BucketWithin a.t.now (get_or a.goals c.loop-i.i past).bucket
within c = c.requires.1 _ (among_first past _ _ ((omega (arith, c.requires.0, c.well_formed.1.1.1.0.1.0.1))) _ c.loop-i-test.true)

pub loop-i-init : goal.loop-i-init
loop-i-init c = along_all _ _

pub offset_bounds-goals-i : goal.offset_bounds-goals-i
offset_bounds-goals-i c = omega arith

pub bounds-goals-i : goal.bounds-goals-i
bounds-goals-i c = omega arith

pub free_slot-requires : goal.free_slot-requires
free_slot-requires c = within (goal.at.free_slot-requires c).In-loop-i

pub returns-in-Some : goal.returns-in-Some
returns-in-Some c =
    let e = c.free_slot.ensures in
    let q = c.in-Some.is in
    (item-moves _ _ _ _ (c.loop-i.invariant ∙ first_hit _ past _ _ (fits (goal.at.returns-in-Some c).Start) _ c.loop-i-test.true (is_free _ e.0 q)), (c.requires.2, rw q at e.1))

pub overflow_step-i : goal.overflow_step-i
overflow_step-i c = omega arith

pub loop-i-smaller : goal.loop-i-smaller
loop-i-smaller c = omega arith

pub loop-i-preserved : goal.loop-i-preserved
loop-i-preserved c =
    c.loop-i.invariant ∙ first_pass _ past _ _ (fits (goal.at.loop-i-preserved c).Start) _ c.loop-i-test.true
    (not_free _ c.free_slot.ensures.0 c.in_default.is)

pub returns : goal.returns
returns c = (item-stays _ _ _ _ (c.loop-i.invariant ∙ first-over _ past _ _ (fits (goal.at.returns c).Start) _ c.loop-i-test.false), tt)
