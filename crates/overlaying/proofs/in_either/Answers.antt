-- `overlaying::in_either` meets its contract.
-- Assumes nothing.
use mathlib.Core.Path.{sym, ◌∙◌}
use Rattle.overlaying.proofs.in_either.Goals as goal

pub newer_asked-requires : goal.newer_asked-requires
newer_asked-requires c = (c.requires.0, c.requires.1, sym c.if-has_tags.true ∙ c.has_tags.ensures)

pub newer_asked-requires-2 : goal.newer_asked-requires-2
newer_asked-requires-2 c = (c.requires.0, c.requires.1, sym c.if-has_tags.false ∙ c.has_tags.ensures)
