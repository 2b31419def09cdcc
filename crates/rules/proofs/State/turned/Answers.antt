-- `rules::State::turned` meets its contract.
-- Assumes nothing.
use Rattle.rules.specs.Stores.{turned_of}
use Rattle.rules.proofs.Words.States.{state-fits}
use Rattle.rules.proofs.State.turned.Goals as goal

pub begun-requires : goal.begun-requires
begun-requires c = (state-fits 20 _ c.requires).1

pub returns-then-shrinking : goal.returns-then-shrinking
unfolding turned_of
returns-then-shrinking c = rw (← c.shrinking.ensures, c.if-shrinking.true) c.begun.ensures

pub shrunk-requires : goal.shrunk-requires
shrunk-requires c = (state-fits 20 _ c.requires).0

pub returns : goal.returns
unfolding turned_of
returns c = rw (← c.shrinking.ensures, c.if-shrinking.false) c.shrunk.ensures
