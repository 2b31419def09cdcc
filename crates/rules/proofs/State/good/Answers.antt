-- `rules::State::good` meets its contract: each way through it is a law of `States`.
-- Assumes nothing.
use borrow.Author.Tests.{le-leb, lt-leb}
use Rattle.rules.proofs.Words.States.{state-above, state-other, state-rest, state-growing, state-shrinking}
use Rattle.rules.proofs.State.good.Goals as goal

pub returns-then-c-self : goal.returns-then-c-self
returns-then-c-self c = state-above _ _ c.if-c-self.true

pub returns-then-self-eq0 : goal.returns-then-self-eq0
returns-then-self-eq0 c = state-rest _ _ c.if-c-self.false c.if-self-eq0.true

pub returns-then-self-eq1 : goal.returns-then-self-eq1
returns-then-self-eq1 c = state-growing _ _ c.if-c-self.false c.if-self-eq1.true

pub returns-then-self-ge1 : goal.returns-then-self-ge1
returns-then-self-ge1 c = state-shrinking _ _ _ c.if-self-eq2.true (rw (le-leb 1 _ c.if-self-ge1.true))

pub returns-else-self-ge1 : goal.returns-else-self-ge1
returns-else-self-ge1 c = state-shrinking _ _ _ c.if-self-eq2.true (rw (lt-leb 1 _ c.if-self-ge1.false))

pub returns : goal.returns
returns c = state-other _ _ c.if-self-eq0.false c.if-self-eq1.false c.if-self-eq2.false
