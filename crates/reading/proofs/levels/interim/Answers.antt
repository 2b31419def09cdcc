-- `reading::levels::interim` meets its contract, by the phase.
-- Assumes nothing.
use mathlib.Core.Path.{◌≡◌, refl, sym, ◌∙◌}
use mathlib.Core.Bool.{true, false}
use native.Mathlib.Omega.{arith}
use Rattle.rules.specs.Words.{shrinking, interim_of}
use Rattle.rules.proofs.Words.States.{state-fits, interim-fits, interim_least}
use Rattle.reading.proofs.levels.interim.Goals as goal
use Rattle.reading.proofs.levels.interim.Goals.{Else-shrinking, Then-shrinking}

shrunk : (c : Then-shrinking) → shrinking c.args.s ≡ true
shrunk c = sym c.shrinking.ensures ∙ c.if-shrinking.true

grown : (c : Else-shrinking) → shrinking c.args.s ≡ false
grown c = sym c.shrinking.ensures ∙ c.if-shrinking.false

pub overflow_add-result : goal.overflow_add-result
overflow_add-result c = omega (arith, state-fits 20 _ c.requires.0)

pub returns-then-shrinking : goal.returns-then-shrinking
unfolding interim_of
returns-then-shrinking c =
    let q = shrunk (goal.at.returns-then-shrinking c).Then-shrinking in
    (rw q refl, rw q at (interim-fits 20 _ c.requires.0 c.requires.1).0)

pub overflow_sub-result : goal.overflow_sub-result
overflow_sub-result c = interim_least 20 _ c.requires.0 c.requires.1 (grown (goal.at.overflow_sub-result c).Else-shrinking)

pub returns : goal.returns
unfolding interim_of
returns c =
    let q = grown (goal.at.returns c).Else-shrinking in
    (rw q refl, rw q at (interim-fits 20 _ c.requires.0 c.requires.1).0)
