-- `reading::tokens::meant` meets its contract: in form 1 the keys play no part.
-- Assumes nothing.
use mathlib.Core.Path.{sym, ◌∙◌}
use Rattle.rules.specs.Words.{meant}
use Rattle.rules.proofs.Words.Tokens.{meant_untagged}
use Rattle.reading.proofs.tokens.meant.Goals as goal

pub returns-then-not-has_tags : goal.returns-then-not-has_tags
returns-then-not-has_tags c = c.token_number.ensures.0 ∙ sym (meant_untagged _ _ _ (sym c.has_tags.ensures ∙ c.if-not-has_tags.true))

pub returns : goal.returns
unfolding meant
returns c =
    rw (
      c.mark_meant.ensures.0,
      c.mark_meant-2.ensures.0,
      c.mark_meant-3.ensures.0,
      c.mark_meant-4.ensures.0,
    )
