-- `reading::forms::tag_from` meets its contract.
-- Assumes nothing.
use mathlib.Core.Path.{sym, ◌∙◌}
use Rattle.reading.proofs.forms.tag_from.Goals as goal

pub returns-then-has_tags : goal.returns-then-has_tags
returns-then-has_tags c = rw (sym c.has_tags.ensures ∙ c.if-has_tags.true)

pub returns : goal.returns
returns c = rw (sym c.has_tags.ensures ∙ c.if-has_tags.false)
