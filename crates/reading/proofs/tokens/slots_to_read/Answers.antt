-- `reading::tokens::slots_to_read` meets its contract.
-- Assumes nothing.
use Rattle.reading.proofs.Marks.{all-readable, fitting-readable, sum_fits, marks_most, marks_fit}
use Rattle.reading.proofs.tokens.slots_to_read.Goals as goal

pub returns-then-not-tags : goal.returns-then-not-tags
returns-then-not-tags c = all-readable _ _ _ (c.if-not-tags.true)

pub overflow_add-result : goal.overflow_add-result
overflow_add-result c = record { fits = sum_fits c.token.result _ c.requires.1 }

pub overflow_sub-result : goal.overflow_sub-result
overflow_sub-result c = marks_most c.token.result _ c.requires.1

pub returns : goal.returns
returns c = rw (fitting-readable _ _ _ (c.if-not-tags.false), ← c.token.ensures) (marks_fit c.token.result _ c.requires.1)
