-- `converting::fill_table` meets its contract: the items of the levels from the n-th on are left.
-- Assumes nothing.
use native.Mathlib.Omega.{arith}
use lib.ListN.{drop_of_length-le}
use Rattle.rules.specs.Words.{levels_in_use}
use Rattle.rules.proofs.Words.Headers.{header-state}
use Rattle.rules.proofs.Words.Levels.{exponent-fits}
use Rattle.rules.proofs.Basics.Walks.{stands_in}
use Rattle.converting.proofs.Filling.{all_left, none_left, along_next, along_end, levels_whole, block_may, block_done, block_stuck}
use Rattle.reading.proofs.Gated.{passed_on}
use Rattle.converting.proofs.fill_table.Goals as goal

pub loop-n-init : goal.loop-n-init
loop-n-init c = all_left _ _ _ _ _ _ (levels_whole _) c.requires.1

pub nth_level-requires : goal.nth_level-requires
nth_level-requires c = (header-state _ _ c.requires.0, rw (← c.level_count-levels.ensures.0) c.loop-n-test.true)

pub fill_level-requires : goal.fill_level-requires
fill_level-requires c = (
  c.requires.0,
  exponent-fits c.args.h.c c.args.h.state c.requires.0.state c.nth_level.result
      (stands_in (levels_in_use c.args.h.state) c.loop-n.n c.nth_level.ensures.0),
  block_may _ _ _ _ _ _ _ _ _ (along_next _ _ _ _ c.nth_level.ensures.0) c.loop-n.invariant,
)

pub returns-in_err-fill_level : goal.returns-in_err-fill_level
returns-in_err-fill_level c = rw (passed_on c.from_residual.ensures.1)
    (block_stuck _ _ _ _ _ _ _ _ _ (along_next _ _ _ _ c.nth_level.ensures.0) c.loop-n.invariant _ _ c.in_err-fill_level.ensures)

pub overflow_step-n : goal.overflow_step-n
overflow_step-n c = omega arith

pub loop-n-smaller : goal.loop-n-smaller
loop-n-smaller c = omega arith

pub loop-n-preserved : goal.loop-n-preserved
loop-n-preserved c = block_done _ _ _ _ _ _ _ _ _ (along_next _ _ _ _ c.nth_level.ensures.0) c.loop-n.invariant _ c.in_ok-fill_level.ensures

pub returns : goal.returns
returns c =
    let over = rw c.level_count-levels.ensures.0 at c.loop-n-test.false in
    none_left _ _ _ _ _ _ _ (along_end _ _ _ (drop_of_length-le _ over)) c.loop-n.invariant
