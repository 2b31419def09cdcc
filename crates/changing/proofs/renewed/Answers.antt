-- `changing::renewed` meets its contract.
-- Assumes nothing.
use Rattle.reading.specs.Within.{SlotWithin}
use native.Mathlib.Omega.{arith}
use Rattle.rules.specs.Words.{place_of}
use Rattle.changing.proofs.Changes.{renew_free, renew_full}
use Rattle.changing.proofs.renewed.Goals as goal
use Rattle.changing.proofs.renewed.Goals.{In-Some}

-- the free slot lies in the table
within : (c : In-Some) → SlotWithin c.args.t.now c.in-Some.y
within c = rw c.in-Some.is at c.free_slot-free.ensures.1

pub returns-in_default : goal.returns-in_default
unfolding place_of
returns-in_default c =
    let f = c.free_slot-free in
    renew_full _ _ _ _ _ _ f.result f.ensures.0 c.in_default.is c.log-at.ensures c.redo.ensures

pub put-requires : goal.put-requires
put-requires c =
    let w = within (goal.at.put-requires c).In-Some in
    (omega (arith, c.requires.0), omega (arith, c.requires.1, w.0, w.1), c.requires.3)

pub returns : goal.returns
unfolding place_of
returns c =
    renew_free _ _ _ _ _ _ _ c.free_slot-free.ensures.0 c.in-Some.is c.token.ensures
    c.hide.ensures c.put.ensures
