-- `changing::insert_stores` meets its contract.
-- Assumes nothing.
use borrow.Enum.Refused.{opened}
use native.Mathlib.Omega.{arith}
use Rattle.reading.specs.Within.{SlotWithin}
use Rattle.listing.proofs.Placings.{takes_within, takes_free, takes_moved, free-run}
use Rattle.changing.proofs.insert_stores.Goals as goal
use Rattle.changing.proofs.insert_stores.Goals.{Start}

-- the slot that is taken lies in the table
within : (c : Start) → SlotWithin c.args.t.now c.args.y
within c = takes_within _ _ _ c.requires.2

pub insert_by_move-requires : goal.insert_by_move-requires
insert_by_move-requires c =
    let k = takes_moved _ _ c.in-Move.is c.requires.2 in
    (c.requires.0, c.requires.1, (k.1, k.2), c.requires.3)

pub returns-in-Move : goal.returns-in-Move
returns-in-Move c = rw c.in-Move.is c.insert_by_move.ensures

pub token-requires : goal.token-requires
token-requires c = (within (goal.at.token-requires c).Start).0

pub put-requires : goal.put-requires
put-requires c =
    let w = within (goal.at.put-requires c).Start in
    (omega arith, omega (arith, w.0, w.1), c.requires.3)

pub returns : goal.returns
returns c = free-run _ _ _ _ _ _ _ c.token.ensures (takes_free _ _ _ (opened c.in_default.in_default-own.keys2) c.requires.2) c.put.ensures
