-- `querying::lookup::lookup_by` meets its contract.
-- Assumes nothing.
use mathlib.Core.Path.{sym, ◌∙◌}
use Rattle.querying.proofs.lookup.lookup_by.Goals as goal

pub lookup_with-requires : goal.lookup_with-requires
lookup_with-requires c =
    let pre = c.requires in
    (pre.0, pre.1, sym c.if-has_tags.true ∙ c.has_tags.ensures)

pub lookup_with-requires-2 : goal.lookup_with-requires-2
lookup_with-requires-2 c =
    let pre = c.requires in
    (pre.0, pre.1, sym c.if-has_tags.false ∙ c.has_tags.ensures)
