-- `overlaying::in_older` meets its contract.
-- Assumes nothing.
use mathlib.Core.Path.{sym, ◌∙◌}
use Rattle.overlaying.proofs.in_older.Goals as goal

pub older_asked-requires : goal.older_asked-requires
older_asked-requires c = (c.requires.0, c.requires.1, sym c.if-has_tags.true ∙ c.has_tags.ensures)

pub older_asked-requires-2 : goal.older_asked-requires-2
older_asked-requires-2 c = (c.requires.0, c.requires.1, sym c.if-has_tags.false ∙ c.has_tags.ensures)
