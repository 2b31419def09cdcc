-- `reading::tokens::hide` meets its contract.
-- Assumes nothing.
use native.Mathlib.Omega.{arith}
use mathlib.Core.Path.{sym, ◌∙◌}
use lib.Bits.{and_le_l}
use Rattle.reading.proofs.TokenWords.{shifted, hide_untagged, hide-tagged}
use Rattle.reading.proofs.tokens.hide.Goals as goal

pub overflow_sub-result : goal.overflow_sub-result
overflow_sub-result c = let k = shifted _ c.requires in omega (arith, k.0, k.1)

pub returns-then-not-has_tags : goal.returns-then-not-has_tags
returns-then-not-has_tags c =
    hide_untagged _ _ _ c.requires
    (sym c.has_tags.ensures ∙ c.if-not-has_tags.true) c.token_number.ensures.0

pub overflow_sub-rest : goal.overflow_sub-rest
overflow_sub-rest c = and_le_l c.args.word _

pub overflow_sub-result-2 : goal.overflow_sub-result-2
overflow_sub-result-2 c = and_le_l _ _

pub returns : goal.returns
returns c = hide-tagged _ _ _ c.requires (sym c.has_tags.ensures ∙ c.if-not-has_tags.false)
