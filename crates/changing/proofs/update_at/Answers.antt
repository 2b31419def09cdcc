-- `changing::update_at` meets its contract.
-- Assumes nothing.
use native.Mathlib.Omega.{arith}
use Rattle.rules.proofs.Words.Headers.{table-small}
use Rattle.listing.proofs.Outcomes.{did_list, did_refuse, did_as}
use Rattle.querying.proofs.Standings.{is_absent}
use Rattle.changing.proofs.Changes.{hashed_tag, update-absent, update-listed}
use Rattle.changing.proofs.update_at.Goals as goal

pub lookup_by-found-requires : goal.lookup_by-found-requires
lookup_by-found-requires c = (c.requires.1, c.hashes-hash.ensures)

pub renewed-stores-requires : goal.renewed-stores-requires
renewed-stores-requires c = (
  omega (arith, c.requires.0),
  table-small _ _ c.requires.1,
  rw c.in-Stands.is at c.lookup_by-found.ensures.1,
  hashed_tag _ _ c.hashes-hash.ensures,
)

pub returns-in-Absent : goal.returns-in-Absent
returns-in-Absent c = did_as (update-absent _ _ _ c.lookup_by-found.ensures.0 _ (is_absent _ c.in-Absent.in-Absent-own.keys1).1) (did_refuse _ _)

pub returns-in-Stands : goal.returns-in-Stands
returns-in-Stands c =
    did_as (update-listed _ _ _ c.lookup_by-found.ensures.0 _ c.in-Stands.is)
    (did_list c.renewed-stores.ensures.0 (omega (arith, c.renewed-stores.ensures.0.0, c.renewed-stores.ensures.1)))
