-- `reading::places::place_in_use` meets its contract.
-- Assumes nothing.
use Rattle.rules.proofs.Words.Levels.{nth_named}
use Rattle.reading.specs.Levels.{nth_level}
use Rattle.reading.proofs.Placed.{placed}
use Rattle.reading.proofs.places.place_in_use.Goals as goal

pub returns : goal.returns
returns c = placed (nth_level c.args.s c.args.n) _ c.nth_first.ensures.0 (rw (nth_named _ _ c.requires.1) c.place_from.ensures)
