-- `reporting::put_functions` meets its contract.
-- Assumes nothing.
use Rattle.std.proofs.Common.{arith, rules, refl}
use Rattle.reporting.proofs.Putting.{lines_none, lines_more}
use Rattle.reporting.proofs.put_functions.Goals as goal

pub loop-credit-init : goal.loop-credit-init
loop-credit-init c = (refl, lines_none _ _ _ (omega (arith, c.requires)))

pub loop-credit-preserved : goal.loop-credit-preserved
loop-credit-preserved c = (
  search rules,
  lines_more _ _ _ c.loop-credit.credit-index _ c.loop-credit-test.true c.loop-credit.invariant.1 c.put_function-at.ensures.0
      c.put_function-at.ensures.1,
)
