-- `growing::step_item` meets its contract.
-- Assumes nothing.
use mathlib.Core.Path.{◌≡◌}
use mathlib.Core.Option.{some}
use native.Mathlib.Omega.{arith}
use Rattle.rules.specs.Words.{key_in}
use Rattle.rules.specs.Placing.{placing}
use Rattle.rules.specs.Calls.{step_item}
use Rattle.rules.proofs.Words.Headers.{table-small, header-state}
use Rattle.reading.specs.Within.{SlotWithin}
use Rattle.listing.specs.Listing.{Takes}
use Rattle.listing.proofs.Placings.{apart-free, apart_move}
use Rattle.growing.proofs.Searches.{step_in_level}
use Rattle.growing.proofs.Stepping.{step_nowhere, step-within, step-somewhere, did_step_refuse, did_step}
use Rattle.growing.proofs.step_item.Goals as goal
use Rattle.growing.proofs.step_item.Goals.{in-Free, in-Free-2}
use Rattle.growing.proofs.step_item.Goals.{Joined-p}

-- the placing as it was taken apart, and the slot of its new item
taken : (c : Joined-p) →
    (c.match-p.p ≡ c.first_placed-found.result.placing) × Takes c.args.t.now c.match-p.p c.match-p.y
taken c =
    let w = step-within _ _ _ _ c.first_placed-found.ensures in
    elim c.match-p.branch [
      | in-Free u ↦ apart-free _ u.in-Free.p-1-is u.p-is u.y-is w
      | in-Free-2 u ↦ apart_move _ u.in-Free.p-in-Move-1-is u.p-is u.y-is w
    ]

-- so an item was found: the one that the step takes
found : (c : Joined-p) →
    let x = c.first_placed-found.result.item in
    (step_item c.args.t.now c.args.h c.args.b ≡ some x) × (c.match-p.p ≡ placing c.args.t.now c.args.h (key_in c.args.t.now x))
    × SlotWithin c.args.t.now x
found c = let z = taken c in step-somewhere _ _ _ _ _ _ c.first_placed-found.ensures z.0 z.1

pub returns-in_default : goal.returns-in_default
returns-in_default c = did_step_refuse _ _ _ _ (step_nowhere _ _ c.first_placed-found.result _ c.first_placed-found.ensures c.in_default.in_default-own.keys3) c.unplaced.ensures

pub key_at-key-requires : goal.key_at-key-requires
key_at-key-requires c = (found (goal.at.key_at-key-requires c).Joined-p).2

pub record_at-requires : goal.record_at-requires
record_at-requires c = (found (goal.at.record_at-requires c).Joined-p).2

pub list_placing-at-requires : goal.list_placing-at-requires
list_placing-at-requires c = (omega (arith, c.requires.0), table-small _ _ c.requires.1.good, (taken (goal.at.list_placing-at-requires c).Joined-p).1, c.tag.ensures.0)

pub token-requires : goal.token-requires
token-requires c = (found (goal.at.token-requires c).Joined-p).2.0

pub clear-n-requires : goal.clear-n-requires
clear-n-requires c =
    let x = (found (goal.at.clear-n-requires c).Joined-p).2 in
    omega (arith, c.requires.0, table-small _ _ c.requires.1.good, x.0, x.1, c.list_placing-at.ensures.1)

pub bucket_in_level-requires : goal.bucket_in_level-requires
bucket_in_level-requires c = (header-state _ _ c.requires.1.good, c.requires.2, step_in_level _ _ _ _ (found (goal.at.bucket_in_level-requires c).Joined-p).0)

pub returns : goal.returns
returns c =
    let x = found (goal.at.returns c).Joined-p in
    did_step _ _ _ _ _ x.0 c.key_at-key.ensures c.record_at.ensures x.1
    c.token.ensures c.bucket_in_level.ensures
    c.requires.0 c.list_placing-at.ensures c.clear-n.ensures
