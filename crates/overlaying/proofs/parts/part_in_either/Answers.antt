-- `overlaying::parts::part_in_either` meets its contract.
-- Assumes nothing.
use mathlib.Core.Path.{sym, ◌∙◌}
use Rattle.overlaying.proofs.parts.part_in_either.Goals as goal

pub newer_part_with-requires : goal.newer_part_with-requires
newer_part_with-requires c = (c.requires.0, c.requires.1, sym c.if-has_tags.true ∙ c.has_tags.ensures)

pub newer_part_with-requires-2 : goal.newer_part_with-requires-2
newer_part_with-requires-2 c = (c.requires.0, c.requires.1, sym c.if-has_tags.false ∙ c.has_tags.ensures)
