-- `recovering::target::home_of` meets its contract: the first level of all that has the bucket is the first from the n-th on.
-- Assumes nothing.
use mathlib.Core.Path.{sym, ◌∙◌}
use native.Mathlib.Omega.{arith}
use lib.ListN.{drop_of_length-le}
use Rattle.rules.proofs.Basics.Along.{along_pass, along_hit, along_over}
use Rattle.recovering.proofs.Word6.{levels_all, level_hit, level_pass}
use Rattle.recovering.proofs.target.home_of.Goals as goal

pub loop-n-init : goal.loop-n-init
loop-n-init c = levels_all _ _

pub nth_level-level-requires : goal.nth_level-level-requires
nth_level-level-requires c = (c.requires, rw (← c.level_count-count.ensures.0) c.loop-n-test.true)

pub in_level-requires : goal.in_level-requires
in_level-requires c = c.nth_level-level.ensures.1

pub returns-then-in_level : goal.returns-then-in_level
returns-then-in_level c = sym (c.loop-n.invariant ∙ along_hit _ _ _ c.nth_level-level.ensures.0 (level_hit _ _ _ c.in_level.ensures c.if-in_level.true))

pub overflow_step-n : goal.overflow_step-n
overflow_step-n c = omega arith

pub loop-n-smaller : goal.loop-n-smaller
loop-n-smaller c = omega arith

pub loop-n-preserved : goal.loop-n-preserved
loop-n-preserved c = c.loop-n.invariant ∙ along_pass _ _ _ c.nth_level-level.ensures.0 (level_pass _ _ _ c.in_level.ensures c.if-in_level.false)

pub returns : goal.returns
returns c =
    let over = rw c.level_count-count.ensures.0 at c.loop-n-test.false in
    sym (c.loop-n.invariant ∙ along_over _ _ _ (drop_of_length-le _ over))
