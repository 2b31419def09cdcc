-- `changing::look_for` meets its contract.
-- Assumes nothing.
use mathlib.Core.Path.{sym, ◌∙◌}
use Rattle.changing.proofs.look_for.Goals as goal

pub look_by-requires : goal.look_by-requires
look_by-requires c = (c.requires, sym c.if-has_tags.true ∙ c.has_tags.ensures)

pub look_by-requires-2 : goal.look_by-requires-2
look_by-requires-2 c = (c.requires, sym c.if-has_tags.false ∙ c.has_tags.ensures)
