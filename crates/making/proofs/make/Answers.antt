-- `making::make` meets its contract: the pairs are there, then the indexes are tested, and then the stores are made.
-- Assumes nothing.
use mathlib.Core.Path.{◌≡◌, sym, ◌∙◌}
use mathlib.Core.Bool.{true}
use lib.ListN.{length}
use Rattle.rules.specs.Stores.{pairs}
use Rattle.making.specs.Indexes.{inside}
use native.Mathlib.Omega.{arith}
use Rattle.making.proofs.Making.{few-pairs, outside, all_made}
use Rattle.making.proofs.make.Goals as goal
use Rattle.making.proofs.make.Goals.{Else-not-indexes_inside}

-- every index is inside, once that is tested
passed : (c : Else-not-indexes_inside) →
    let a = c.args in
    inside (length a.t.now) (pairs a.n a.list.now) ≡ true
passed c = sym c.indexes_inside.ensures ∙ c.if-not-indexes_inside.false

pub returns-then-list-count : goal.returns-then-list-count
returns-then-list-count c = few-pairs _ _ _ c.if-list-count.true

pub returns-then-not-indexes_inside : goal.returns-then-not-indexes_inside
returns-then-not-indexes_inside c = outside _ _ _ (sym c.indexes_inside.ensures ∙ c.if-not-indexes_inside.true)

pub store_all-requires : goal.store_all-requires
store_all-requires c = (omega arith, passed (goal.at.store_all-requires c).Else-not-indexes_inside)

pub returns : goal.returns
returns c = all_made _ _ _ (omega arith) (passed (goal.at.returns c).Else-not-indexes_inside) c.store_all.ensures
