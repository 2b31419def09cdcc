-- `reading::forms::mixed` meets its contract.
-- Assumes nothing.
use mathlib.Core.Path.{sym, ◌∙◌}
use Rattle.rules.proofs.Words.Forms.{mixed-tagged, mixed_untagged}
use Rattle.reading.proofs.forms.mixed.Goals as goal

pub returns-then-has_tags : goal.returns-then-has_tags
returns-then-has_tags c = sym (mixed-tagged _ (sym c.has_tags.ensures ∙ c.if-has_tags.true) _)

pub returns : goal.returns
returns c = sym (mixed_untagged _ (sym c.has_tags.ensures ∙ c.if-has_tags.false) _)
