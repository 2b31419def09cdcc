-- `changing::delete_at` meets its contract.
-- Assumes nothing.
use Rattle.rules.specs.Stores.{clear_stores}
use native.Mathlib.Omega.{arith}
use Rattle.reading.specs.Within.{SlotWithin}
use Rattle.rules.proofs.Words.Headers.{table-small}
use Rattle.listing.proofs.Outcomes.{did_list, did_refuse, did_as}
use Rattle.querying.proofs.Standings.{is_absent}
use Rattle.changing.proofs.Changes.{delete-absent, delete-listed}
use Rattle.changing.proofs.delete_at.Goals as goal
use Rattle.changing.proofs.delete_at.Goals.{In-Stands}

-- the key's slot lies in the table
within : (c : In-Stands) → SlotWithin c.args.t.now c.in-Stands.x
within c = rw c.in-Stands.is at c.lookup-found.ensures.1

pub token-requires : goal.token-requires
token-requires c = (within (goal.at.token-requires c).In-Stands).0

pub clear-cleared-requires : goal.clear-cleared-requires
clear-cleared-requires c =
    let w = within (goal.at.clear-cleared-requires c).In-Stands in
    let m = table-small _ _ c.requires.1 in
    omega (arith, c.requires.0, m, w.0, w.1)

pub returns-in-Absent : goal.returns-in-Absent
returns-in-Absent c = did_as (delete-absent _ _ _ c.lookup-found.ensures.0 (is_absent _ c.in-Absent.in-Absent-own.keys1).1) (did_refuse _ _)

pub returns-in-Stands : goal.returns-in-Stands
unfolding clear_stores
returns-in-Stands c =
    did_as (delete-listed _ _ _ c.lookup-found.ensures.0 c.in-Stands.is c.token.ensures)
    (did_list c.clear-cleared.ensures (omega arith))
