-- `recovering::target::find_target` meets its contract.
-- Assumes nothing.
use mathlib.Core.Path.{sym, ap, ◌∙◌}
use native.Mathlib.Omega.{arith}
use Rattle.rules.specs.Words.{target_of}
use Rattle.rules.proofs.Words.Headers.{header-state, header-fits}
use Rattle.recovering.specs.Found.{means}
use Rattle.recovering.proofs.Word6.{word_low, word-between, word_outside, word-free, named-within, word_names}
use Rattle.recovering.proofs.target.find_target.Goals as goal

pub bounds-t-6 : goal.bounds-t-6
bounds-t-6 c = omega (arith, header-fits _ _ c.requires.0)

pub returns-then-word-lt-HEADER_WORDS : goal.returns-then-word-lt-HEADER_WORDS
unfolding target_of
returns-then-word-lt-HEADER_WORDS c = word_low _ c.if-word-lt-HEADER_WORDS.true

pub returns-then-offset-ne-FIRST_SLOT : goal.returns-then-offset-ne-FIRST_SLOT
unfolding target_of
returns-then-offset-ne-FIRST_SLOT c = word-between _ c.if-offset-ne-FIRST_SLOT.true

pub home_of-requires : goal.home_of-requires
home_of-requires c = header-state _ _ c.requires.0

pub returns-in_err-level : goal.returns-in_err-level
unfolding target_of
returns-in_err-level c = rw c.from_residual.ensures (word_outside _ c.requires.1 (sym c.home_of.ensures ∙ ap means c.in_err-level.was))

pub token-requires : goal.token-requires
unfolding target_of
token-requires c =
    let p = c.requires in
    named-within _ p.1 p.0 c.if-offset-ne-FIRST_SLOT.false (sym c.home_of.ensures ∙ ap means c.in_ok-level.was)

pub returns-then-not-is_taken : goal.returns-then-not-is_taken
unfolding target_of
returns-then-not-is_taken c =
    let p = c.requires in
    word-free _ p.1 (rw (← c.token.ensures) (sym c.is_taken.ensures ∙ c.if-not-is_taken.true))

pub returns : goal.returns
unfolding target_of
returns c =
    let p = c.requires in
    word_names _ p.1 p.0 c.if-offset-ne-FIRST_SLOT.false (sym c.home_of.ensures ∙ ap means c.in_ok-level.was) c.if-word-lt-HEADER_WORDS.false
    (rw (← c.token.ensures) (sym c.is_taken.ensures ∙ c.if-not-is_taken.false))
