-- `script::take_some` meets its contract: before byte `taken`, the text of those before it is at the front of the buffer.
-- Assumes nothing.
use Prim.Native.Nat.{◌-◌}
use mathlib.Core.Path.{sym, ◌∙◌}
use native.Mathlib.Omega.{arith}
use lib.ListN.{length}
use Rattle.script.proofs.Parts.{goes_on_lem, taking_none, taking_next, took, took_all}
use Rattle.script.proofs.take_some.Goals as goal

pub loop-taken-init : goal.loop-taken-init
loop-taken-init c = taking_none _ _ _

pub say_at-waiting-requires : goal.say_at-waiting-requires
say_at-waiting-requires c =
    let l = c.loop-taken in
    omega (arith, goes_on_lem l.run (length l.out - l.waiting) (sym c.pauses.ensures ∙ c.if-pauses.false))

pub loop-taken-preserved : goal.loop-taken-preserved
loop-taken-preserved c = taking_next c.loop-taken.invariant c.loop-taken-test.true c.take_byte-next.ensures c.say_at-waiting.ensures

pub returns-then-pauses : goal.returns-then-pauses
returns-then-pauses c = (took c.loop-taken.invariant (λ _. sym c.pauses.ensures ∙ c.if-pauses.true), omega arith)

pub returns : goal.returns
returns c = (took_all c.loop-taken.invariant c.loop-taken-test.false, omega arith)
