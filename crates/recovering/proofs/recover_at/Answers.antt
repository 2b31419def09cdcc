-- `recovering::recover_at` meets its contract.
-- Assumes nothing.
use Prim.Native.Nat.{◌≤◌}
use mathlib.Core.Path.{refl}
use native.Mathlib.Omega.{arith}
use lib.ListN.{length}
use Rattle.rules.specs.Words.{words_for, logged_of}
use Rattle.rules.specs.Stores.{clear_stores, redo_stores}
use Rattle.rules.proofs.Words.Headers.{table-small}
use Rattle.reading.specs.Within.{SlotWithin}
use Rattle.listing.proofs.Outcomes.{did_list, did_refuse, did_as}
use Rattle.recovering.proofs.Recovery.{did_nothing, recover-sound, recover_neither, recover-doubled, recover-flagged}
use Rattle.recovering.proofs.recover_at.Goals as goal
use Rattle.recovering.proofs.recover_at.Goals.{In-Doubled, In-Flagged, Start}

-- the slots of a finding lie in the table
doubled-within : (c : In-Doubled) → SlotWithin c.args.t.now c.in-Doubled.later
doubled-within c = (rw c.in-Doubled.is at c.finding.ensures.1).1

flagged-within : (c : In-Flagged) → SlotWithin c.args.t.now c.in-Flagged.x
flagged-within c = rw c.in-Flagged.is at c.finding.ensures.1

-- and the table has words 7 and 8
long : (c : Start) → 9 ≤ length c.args.t.now
unfolding words_for
long c = omega (arith, c.requires.1.long)

pub token-requires : goal.token-requires
token-requires c = (doubled-within (goal.at.token-requires c).In-Doubled).0

pub clear-cleared-requires : goal.clear-cleared-requires
clear-cleared-requires c =
    let w = doubled-within (goal.at.clear-cleared-requires c).In-Doubled in
    let m = table-small _ _ c.requires.1 in
    omega (arith, c.requires.0, m, w.0, w.1)

pub bounds-t-7 : goal.bounds-t-7
bounds-t-7 c = omega (arith, long (goal.at.bounds-t-7 c).Start)

pub bounds-t-8 : goal.bounds-t-8
bounds-t-8 c = omega (arith, long (goal.at.bounds-t-8 c).Start)

pub redo-redone-requires : goal.redo-redone-requires
redo-redone-requires c =
    let w = flagged-within (goal.at.redo-redone-requires c).In-Flagged in
    let m = table-small _ _ c.requires.1 in
    omega (arith, c.requires.0, m, w.0, w.1)

pub returns-in-Sound : goal.returns-in-Sound
returns-in-Sound c = let f = c.finding in did_as (recover-sound _ _ f.result f.ensures.0 c.in-Sound.is) (did_nothing _)

pub returns-in-Doubled : goal.returns-in-Doubled
unfolding clear_stores
returns-in-Doubled c =
    let f = c.finding in
    did_as (recover-doubled _ _ f.result f.ensures.0 c.in-Doubled.is c.token.ensures) (did_list c.clear-cleared.ensures (omega arith))

pub returns-in-Flagged : goal.returns-in-Flagged
unfolding redo_stores logged_of
returns-in-Flagged c =
    let f = c.finding in
    did_as (recover-flagged _ _ f.result f.ensures.0 c.in-Flagged.is refl) (did_list c.redo-redone.ensures (omega arith))

pub returns-in-Neither : goal.returns-in-Neither
returns-in-Neither c = let f = c.finding in did_as (recover_neither _ _ f.result f.ensures.0 c.in-Neither.is) (did_refuse _ _)
