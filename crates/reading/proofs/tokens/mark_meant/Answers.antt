-- `reading::tokens::mark_meant` meets its contract.
-- Assumes nothing.
use mathlib.Core.Path.{sym, ◌∙◌}
use native.Mathlib.Omega.{arith}
use Rattle.reading.proofs.TokenWords.{added_is, added_small, meant-taken, meant-free}
use Rattle.reading.proofs.tokens.mark_meant.Goals as goal

pub overflow_add-result-then-is_taken : goal.overflow_add-result-then-is_taken
overflow_add-result-then-is_taken c = record { fits = omega (arith, added_small _ _ c.requires.1 c.tag-own.ensures.1) }

pub returns-then-is_taken : goal.returns-then-is_taken
returns-then-is_taken c =
    let low = c.requires.1 in (
      added_is _ _ low c.tag-own.ensures.1
          ∙ meant-taken _ _ _ _ _ (sym c.is_taken.ensures ∙ c.if-is_taken.true)
          c.tag-own.ensures.0 c.key_at.ensures,
      added_small _ _ low c.tag-own.ensures.1,
    )

pub returns : goal.returns
returns c = (meant-free _ _ _ _ _ (sym c.is_taken.ensures ∙ c.if-is_taken.false), omega arith)
