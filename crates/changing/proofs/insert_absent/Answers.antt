-- `changing::insert_absent` meets its contract.
-- Assumes nothing.
use Rattle.std.proofs.Common.{refl}
use Rattle.rules.specs.Placing.{placing}
use Rattle.rules.specs.Answers.{PlacingTells}
use native.Mathlib.Omega.{arith}
use Rattle.rules.proofs.Words.Headers.{table-small}
use Rattle.rules.proofs.Calls.Meanings.{placing-told_by}
use Rattle.listing.specs.Listing.{Takes}
use Rattle.listing.proofs.Placings.{apart-free, apart_move}
use Rattle.listing.proofs.Outcomes.{did_list, did_refuse, did_as}
use Rattle.changing.proofs.Changes.{hashed_tag, take_nowhere, take_listed}
use Rattle.changing.proofs.insert_absent.Goals as goal
use Rattle.changing.proofs.insert_absent.Goals.{in-Free, in-Free-2}
use Rattle.changing.proofs.insert_absent.Goals.{Joined-p}

-- what the placing tells as it was taken apart, and the slot of its new item
taken : (c : Joined-p) →
    PlacingTells c.match-p.p (placing c.args.t.now c.args.h c.args.key) × Takes c.args.t.now c.match-p.p c.match-p.y
taken c =
    elim c.match-p.branch [
      | in-Free u ↦ (rw u.p-is u.in-Free.ensures.0, (apart-free _ refl u.p-is u.y-is u.in-Free.ensures.1).1)
      | in-Free-2 u ↦ (rw u.p-is u.in-Free.ensures.0, (apart_move _ refl u.p-is u.y-is u.in-Free.ensures.1).1)
    ]

pub placing-p-requires : goal.placing-p-requires
placing-p-requires c = (c.requires.1, c.requires.2)

pub returns-in_default : goal.returns-in_default
returns-in_default c = did_as (take_nowhere _ _ _ _ (placing-told_by c.placing-p.ensures.0) c.in_default.in_default-own.keys3) (did_refuse _ _)

pub insert_stores-n-requires : goal.insert_stores-n-requires
insert_stores-n-requires c = (omega (arith, c.requires.0), table-small _ _ c.requires.1.good, (taken (goal.at.insert_stores-n-requires c).Joined-p).1, hashed_tag _ _ c.requires.2)

pub returns : goal.returns
returns c =
    let k = taken (goal.at.returns c).Joined-p in
    did_as (take_listed _ _ _ _ (placing-told_by k.0) _ k.1)
    (did_list c.insert_stores-n.ensures.0 (omega (arith, c.insert_stores-n.ensures.0.0, c.insert_stores-n.ensures.1)))
