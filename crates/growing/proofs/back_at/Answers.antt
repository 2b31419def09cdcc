-- `growing::back_at` meets its contract.
-- Assumes nothing.
use mathlib.Core.Path.{sym, ◌∙◌}
use Rattle.listing.proofs.Outcomes.{did_refuse, did_as}
use Rattle.growing.proofs.Growth.{turned-fits, back-resting, back-listed}
use Rattle.growing.proofs.back_at.Goals as goal

pub returns-then-at_rest : goal.returns-then-at_rest
returns-then-at_rest c = did_as (back-resting _ (sym c.at_rest.ensures ∙ c.if-at_rest.true)) (did_refuse _ _)

pub restate-requires : goal.restate-requires
restate-requires c =
    let fits = turned-fits _ c.requires.1 in
    rw c.turned-turned.ensures (c.requires.0, fits.0, fits.1)

pub returns : goal.returns
returns c = did_as (back-listed _ (sym c.at_rest.ensures ∙ c.if-at_rest.false) c.turned-turned.ensures) c.restate.ensures
