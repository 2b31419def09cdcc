-- `placing::room::emptier` meets its contract.
-- Assumes nothing.
use Rattle.placing.proofs.Choosing.{second-emptier, first-emptier}
use Rattle.placing.proofs.room.emptier.Goals as goal

pub returns-then-in_second-in_first : goal.returns-then-in_second-in_first
returns-then-in_second-in_first c = (
  second-emptier _ _ _ _ c.token.ensures c.taken_count-in_first.ensures c.token-2.ensures c.taken_count-in_second.ensures
      c.if-in_second-in_first.true,
  c.requires.1,
)

pub returns : goal.returns
returns c = (
  first-emptier _ _ _ _ c.token.ensures c.taken_count-in_first.ensures c.token-2.ensures c.taken_count-in_second.ensures
      c.if-in_second-in_first.false,
  c.requires.0,
)
