-- `placing::moves::goals_of` meets its contract.
-- Assumes nothing.
use mathlib.Core.Path.{◌∙◌}
use Rattle.placing.proofs.Goals.{goals_up, goals-first, goals-second, goals-none}
use Rattle.placing.proofs.moves.goals_of.Goals as goal

pub returns-then-way : goal.returns-then-way
returns-then-way c = (c.both_places.ensures.0 ∙ goals_up _ _ _ c.if-way.true, c.both_places.ensures.1)

pub returns-then-first-from : goal.returns-then-first-from
returns-then-first-from c = (c.one_place.ensures.0 ∙ goals-first _ _ _ c.if-way.false c.place-first.ensures.0 c.if-first-from.true, c.one_place.ensures.1)

pub returns-then-second-from : goal.returns-then-second-from
returns-then-second-from c = (
  c.one_place-then-second-from.ensures.0
      ∙ goals-second _ _ _ c.if-way.false c.place-first.ensures.0 c.if-first-from.false c.place-second.ensures.0 c.if-second-from.true,
  c.one_place-then-second-from.ensures.1,
)

pub returns : goal.returns
returns c = (
  c.no_place.ensures.0
      ∙ goals-none _ _ _ c.if-way.false c.place-first.ensures.0 c.if-first-from.false c.place-second.ensures.0 c.if-second-from.false,
  c.no_place.ensures.1,
)
