-- `placing::moves::moves_of_places` meets its contract: the first move of all places is the first of those from i on.
-- Assumes nothing.
use borrow.Enum.Refused.{opened}
use mathlib.Core.Path.{◌≡◌, sym, ◌∙◌}
use Prim.Native.Nat.{◌≤◌}
use native.Mathlib.Omega.{arith}
use lib.ListN.{length, get_or}
use Rattle.rules.proofs.Basics.Walks.{among_first}
use Rattle.reading.specs.Within.{BucketWithin}
use Rattle.placing.specs.Search.{optional, place_move}
use Rattle.rules.proofs.Basics.Along.{first_pass, first_hit, first-over}
use Rattle.placing.proofs.Goals.{past}
use Rattle.placing.proofs.Placings.{nowhere, somewhere}
use Rattle.placing.proofs.Moving.{place_move_lem, places_all}
use Rattle.placing.proofs.moves.moves_of_places.Goals as goal
use Rattle.placing.proofs.moves.moves_of_places.Goals.{After-moves_of_bucket-found, In-loop-i, Start}

-- the places that are searched are there
fits : (c : Start) → c.args.n ≤ length c.args.places
fits c = omega (arith, c.requires.0, c.well_formed.1.1.0.1.0.1)

-- and the one looked at lies in the table
within : (c : In-loop-i) →
    let a = c.args in BucketWithin a.t.now (get_or a.places c.loop-i.i past).bucket
within c = c.requires.1 _ (among_first past _ _ ((omega (arith, c.requires.0, c.well_formed.1.1.0.1.0.1))) _ c.loop-i-test.true)

-- the items of that place were tried
moved : (c : After-moves_of_bucket-found) →
    let a = c.args in
    optional c.moves_of_bucket-found.result ≡ place_move a.t.now a.h a.way (get_or a.places c.loop-i.i past)
moved c = c.moves_of_bucket-found.ensures.0 ∙ place_move_lem _ _ _ _ c.bucket.ensures

pub loop-i-init : goal.loop-i-init
loop-i-init c = places_all _ _ _ _

pub offset_bounds-places-i : goal.offset_bounds-places-i
offset_bounds-places-i c = omega arith

pub bounds-places-i : goal.bounds-places-i
bounds-places-i c = omega arith

pub bucket-requires : goal.bucket-requires
bucket-requires c = within (goal.at.bucket-requires c).In-loop-i

pub moves_of_bucket-found-requires : goal.moves_of_bucket-found-requires
moves_of_bucket-found-requires c = (within (goal.at.moves_of_bucket-found-requires c).In-loop-i, c.requires.2)

pub returns-in_default : goal.returns-in_default
returns-in_default c =
    let m = c.moves_of_bucket-found in
    let s = somewhere m.result (opened c.in_default.in_default-own.keys2) in (
      s ∙ sym (c.loop-i.invariant ∙ first_hit _ past _ _ (fits (goal.at.returns-in_default c).Start) _ c.loop-i-test.true (sym (moved (goal.at.returns-in_default c).After-moves_of_bucket-found) ∙ s)),
      m.ensures.1,
    )

pub overflow_step-i : goal.overflow_step-i
overflow_step-i c = omega arith

pub loop-i-smaller : goal.loop-i-smaller
loop-i-smaller c = omega arith

pub loop-i-preserved : goal.loop-i-preserved
loop-i-preserved c =
    let m = c.moves_of_bucket-found in
    c.loop-i.invariant ∙ first_pass _ past _ _ (fits (goal.at.loop-i-preserved c).Start) _ c.loop-i-test.true (sym (moved (goal.at.loop-i-preserved c).After-moves_of_bucket-found)
    ∙ nowhere m.result c.in-Nowhere.in-Nowhere-own.keys1)

pub returns : goal.returns
returns c = (sym (c.loop-i.invariant ∙ first-over _ past _ _ (fits (goal.at.returns c).Start) _ c.loop-i-test.false), tt)
