-- `making::indexes_inside` meets its contract: the answer for all pairs is the answer for those that are left.
-- Assumes nothing.
use mathlib.Core.Path.{sym, ap, ◌∙◌}
use Rattle.making.specs.Indexes.{inside}
use Rattle.making.proofs.Making.{pairs_taken, no_pairs, index_outside, index-inside}
use Rattle.making.proofs.indexes_inside.Goals as goal

pub loop-rest-init : goal.loop-rest-init
loop-rest-init c = ap (inside _) (sym (pairs_taken _ _ c.requires))

pub returns-then-size-index : goal.returns-then-size-index
returns-then-size-index c = sym (c.loop-rest.invariant ∙ index_outside _ c.in-len2-up.len_at_least _ c.if-size-index.true)

pub loop-rest-preserved : goal.loop-rest-preserved
loop-rest-preserved c = c.loop-rest.invariant ∙ index-inside _ c.in-len2-up.len_at_least _ c.if-size-index.false

pub returns : goal.returns
unfolding inside
returns c = sym (c.loop-rest.invariant ∙ ap (inside _) (no_pairs _ c.in_default.len_below))
