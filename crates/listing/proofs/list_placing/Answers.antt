-- `listing::list_placing` meets its contract.
-- Assumes nothing.
use borrow.Enum.Refused.{opened}
use Rattle.reading.specs.Within.{SlotWithin}
use native.Mathlib.Omega.{arith}
use Rattle.listing.proofs.Placings.{takes_within, takes_free, takes_moved, free-run, moved-run}
use Rattle.listing.proofs.list_placing.Goals as goal
use Rattle.listing.proofs.list_placing.Goals.{Start}

-- the slot that is taken lies in the table
within : (c : Start) → SlotWithin c.args.t.now c.args.x
within c = takes_within _ _ _ c.requires.2

pub token-word-requires : goal.token-word-requires
token-word-requires c = (within (goal.at.token-word-requires c).Start).0

pub moved-at-requires : goal.moved-at-requires
moved-at-requires c =
    let k = takes_moved _ _ c.in-Move.is c.requires.2 in
    (omega arith, c.requires.1, k.1, k.2)

pub hide-requires : goal.hide-requires
hide-requires c = (within (goal.at.hide-requires c).Start).1

pub put-requires : goal.put-requires
put-requires c =
    let w = within (goal.at.put-requires c).Start in
    (omega arith, omega (arith, w.0, w.1), c.requires.3)

pub returns-in-Move : goal.returns-in-Move
returns-in-Move c =
    let k = takes_moved _ _ c.in-Move.is c.requires.2 in
    moved-run _ _ _ _ _ _ _ c.token-word.ensures c.in-Move.is k.0 c.hide.ensures c.moved-at.ensures c.put.ensures

pub put-requires-2 : goal.put-requires-2
put-requires-2 c =
    let w = within (goal.at.put-requires-2 c).Start in
    (omega arith, omega (arith, w.0, w.1), c.requires.3)

pub returns : goal.returns
returns c = free-run _ _ _ _ _ _ _ c.token-word.ensures (takes_free _ _ _ (opened c.in_default.in_default-own.keys2) c.requires.2) c.put-2.ensures
