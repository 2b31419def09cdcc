-- `reading::tokens::show` meets its contract.
-- Assumes nothing.
use native.Mathlib.Omega.{arith}
use mathlib.Core.Path.{sym, ◌∙◌}
use Rattle.rules.proofs.Words.Tokens.{shown-fits}
use Rattle.reading.proofs.TokenWords.{show_untagged, added_is, added_small}
use Rattle.reading.proofs.tokens.show.Goals as goal

pub returns-then-not-has_tags : goal.returns-then-not-has_tags
returns-then-not-has_tags c =
    let kind = sym c.has_tags.ensures ∙ c.if-not-has_tags.true in
    let pre = c.requires in
    show_untagged _ _ _ pre.0 kind c.token_number.ensures.0 (pre.1.1 kind)

pub overflow_add-result-2 : goal.overflow_add-result-2
overflow_add-result-2 c = let pre = c.requires in record { fits = omega (arith, added_small _ _ pre.0 pre.1.0) }

pub overflow_add-result-3 : goal.overflow_add-result-3
overflow_add-result-3 c =
    record {
      fits =
          rw (c.hide.ensures, added_is _ _ c.requires.0 c.requires.1.0)
          (shown-fits _ c.args.word _ _ c.requires.0 (omega arith) c.requires.1.0);
    }

pub returns : goal.returns
returns c = let pre = c.requires in rw (c.hide.ensures, added_is _ _ pre.0 pre.1.0)
