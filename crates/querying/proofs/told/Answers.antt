-- `querying::told` meets its contract.
-- Assumes nothing.
use borrow.Author.Rules.{rules}
use Rattle.querying.proofs.Answered.{told-known, told-absent}
use Rattle.querying.proofs.told.Goals as goal

pub record_at-requires : goal.record_at-requires
record_at-requires c = rw c.in-Stands.is at c.requires

pub spot-requires : goal.spot-requires
spot-requires c = let y = rw c.in-Stands.is at c.requires in search rules

pub returns-in-Stands : goal.returns-in-Stands
returns-in-Stands c = told-known _ c.in-Stands.is c.record_at.ensures c.spot.ensures

pub returns-in-Absent : goal.returns-in-Absent
returns-in-Absent c = told-absent _ c.in-Absent.is
