-- `reading::gate::header_gate` meets its contract.
-- Assumes nothing.
use mathlib.Core.Path.{sym, ◌∙◌}
use Rattle.rules.specs.Calls.{header_good}
use Rattle.reading.proofs.HeaderTests.{too_short}
use Rattle.reading.proofs.Gated.{header_bad, header-good}
use Rattle.reading.proofs.gate.header_gate.Goals as goal

pub returns-then-t-lt-HEADER_WORDS : goal.returns-then-t-lt-HEADER_WORDS
returns-then-t-lt-HEADER_WORDS c = header_bad _ (too_short _ c.if-t-lt-HEADER_WORDS.true)

pub returns-then-not-header_good : goal.returns-then-not-header_good
unfolding header_good
returns-then-not-header_good c = header_bad _ (rw (← c.decode-h.ensures) (sym c.header_good.ensures ∙ c.if-not-header_good.true))

pub returns : goal.returns
unfolding header_good
returns c =
    header-good _ c.decode-h.ensures
    (rw (← c.decode-h.ensures) (sym c.header_good.ensures ∙ c.if-not-header_good.false))
