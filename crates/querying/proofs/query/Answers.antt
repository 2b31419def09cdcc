-- `querying::query` meets its contract.
-- Assumes nothing.
use mathlib.Core.Path.{sym, ◌∙◌}
use Rattle.reading.proofs.Gated.{passed_on}
use Rattle.querying.proofs.Answered.{refused, through}
use Rattle.querying.proofs.query.Goals as goal

pub queried-requires : goal.queried-requires
queried-requires c = (c.in_ok-h.ensures.1.1, sym c.if-has_tags.true ∙ c.has_tags.ensures)

pub queried-requires-2 : goal.queried-requires-2
queried-requires-2 c = (c.in_ok-h.ensures.1.1, sym c.if-has_tags.false ∙ c.has_tags.ensures)

pub returns-in_err-h : goal.returns-in_err-h
returns-in_err-h c = rw (passed_on c.from_residual.ensures.1) (refused _ _ c.query_gate.ensures.0 c.in_err-h.was)

pub returns-then-has_tags : goal.returns-then-has_tags
returns-then-has_tags c = through _ _ c.query_gate.ensures.0 c.in_ok-h.was c.in_ok-h.ensures.1.0 c.queried.ensures

pub returns : goal.returns
returns c = through _ _ c.query_gate.ensures.0 c.in_ok-h.was c.in_ok-h.ensures.1.0 c.queried-2.ensures
