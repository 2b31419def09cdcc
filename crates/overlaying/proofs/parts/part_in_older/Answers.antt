-- `overlaying::parts::part_in_older` meets its contract.
-- Assumes nothing.
use mathlib.Core.Path.{sym, ◌∙◌}
use Rattle.overlaying.proofs.parts.part_in_older.Goals as goal

pub older_part_with-requires : goal.older_part_with-requires
older_part_with-requires c = (c.requires, sym c.if-has_tags.true ∙ c.has_tags.ensures)

pub older_part_with-requires-2 : goal.older_part_with-requires-2
older_part_with-requires-2 c = (c.requires, sym c.if-has_tags.false ∙ c.has_tags.ensures)
