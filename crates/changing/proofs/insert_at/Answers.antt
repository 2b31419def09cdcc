-- `changing::insert_at` meets its contract.
-- Assumes nothing.
use mathlib.Core.Path.{sym, ◌∙◌}
use Rattle.rules.specs.Places.{lookup}
use Rattle.listing.proofs.Outcomes.{did_refuse, did_as}
use Rattle.changing.proofs.Changes.{insert-found, insert_not_found}
use Rattle.changing.proofs.insert_at.Goals as goal

pub returns-then-known : goal.returns-then-known
returns-then-known c =
    let a = c.args in
    did_as (insert-found _ _ (lookup a.t.now a.h a.key) _ _ (sym c.look_for-known.ensures.1 ∙ c.if-known.true)) (did_refuse _ _)

pub returns : goal.returns
returns c =
    let a = c.args in
    did_as (insert_not_found _ _ (lookup a.t.now a.h a.key) _ _ (sym c.look_for-known.ensures.1 ∙ c.if-known.false)) c.insert_absent.ensures
