-- `querying::probing::is_fresh` meets its contract.
-- Assumes nothing.
use borrow.Author.Tests.{eq-eqb, ne_eqb}
use Rattle.querying.specs.Turns.{fresh}
use Rattle.querying.proofs.probing.is_fresh.Goals as goal

pub returns-then-i-eq0 : goal.returns-then-i-eq0
unfolding fresh
returns-then-i-eq0 c = rw (eq-eqb _ _ c.if-i-eq0.true)

pub returns : goal.returns
unfolding fresh
returns c = rw (ne_eqb _ _ c.if-i-eq0.false)
