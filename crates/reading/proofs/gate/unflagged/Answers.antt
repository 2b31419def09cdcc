-- `reading::gate::unflagged` meets its contract.
-- Assumes nothing.
use native.Mathlib.Omega.{arith}
use borrow.Author.Tests.{eq-eqb, ne_eqb}
use Rattle.rules.specs.Words.{flag_of}
use Rattle.rules.specs.Calls.{flag_clear}
use Rattle.reading.proofs.Gated.{also_failed, also_passed, nine_words}
use Rattle.reading.proofs.gate.unflagged.Goals as goal

pub bounds-t-5 : goal.bounds-t-5
bounds-t-5 c = omega (arith, nine_words c.requires.1)

pub returns-then-t-ne0 : goal.returns-then-t-ne0
unfolding flag_clear flag_of
returns-then-t-ne0 c = also_failed _ _ _ (ne_eqb _ _ c.if-t-ne0.true)

pub returns : goal.returns
unfolding flag_clear flag_of
returns c = also_passed _ _ _ _ c.requires (eq-eqb _ _ c.if-t-ne0.false)
