-- `scanning::items::scan_table` meets its contract: the fold over all levels goes on from the n-th.
-- Assumes nothing.
use mathlib.Core.Path.{sym, ◌∙◌}
use native.Mathlib.Omega.{arith}
use lib.ListN.{drop_of_length-le}
use Rattle.rules.specs.Words.{levels_in_use}
use Rattle.rules.proofs.Words.Headers.{header-state}
use Rattle.rules.proofs.Words.Levels.{exponent-fits}
use Rattle.rules.proofs.Basics.Walks.{stands_in}
use Rattle.rules.proofs.Basics.Loops.{fold_next, fold_end}
use Rattle.scanning.proofs.Meeting.{levels_whole}
use Rattle.scanning.proofs.items.scan_table.Goals as goal

pub loop-n-init : goal.loop-n-init
loop-n-init c = levels_whole _ _

pub nth_level-requires : goal.nth_level-requires
nth_level-requires c = (header-state _ _ c.requires, rw (← c.level_count-levels.ensures.0) c.loop-n-test.true)

pub scan_level-all-requires : goal.scan_level-all-requires
scan_level-all-requires c = (
  c.requires,
  exponent-fits c.args.h.c c.args.h.state c.requires.state c.nth_level.result
      (stands_in (levels_in_use c.args.h.state) c.loop-n.n c.nth_level.ensures.0),
)

pub overflow_step-n : goal.overflow_step-n
overflow_step-n c = omega arith

pub loop-n-smaller : goal.loop-n-smaller
loop-n-smaller c = omega arith

pub loop-n-preserved : goal.loop-n-preserved
loop-n-preserved c = c.loop-n.invariant ∙ fold_next _ _ _ c.nth_level.ensures.0 (sym c.scan_level-all.ensures)

pub returns : goal.returns
returns c =
    let over = rw c.level_count-levels.ensures.0 at c.loop-n-test.false in
    sym (c.loop-n.invariant ∙ fold_end _ _ _ _ (drop_of_length-le _ over))
