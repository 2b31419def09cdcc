-- `reading::levels::level_count` meets its contract.
-- Assumes nothing.
use native.Mathlib.Omega.{arith}
use Rattle.rules.proofs.Words.Levels.{levels_counted}
use Rattle.reading.proofs.levels.level_count.Goals as goal

pub returns-then-at_rest : goal.returns-then-at_rest
returns-then-at_rest c = (rw (levels_counted, ← c.at_rest.ensures, c.if-at_rest.true), omega arith)

pub returns : goal.returns
returns c = (rw (levels_counted, ← c.at_rest.ensures, c.if-at_rest.false), omega arith)
