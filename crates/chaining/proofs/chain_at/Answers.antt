-- `chaining::chain_at` meets its contract.
-- Assumes nothing.
use mathlib.Core.Path.{◌≡◌, sym, ◌∙◌}
use mathlib.Core.Bool.{true}
use native.Mathlib.Omega.{arith}
use Rattle.rules.specs.Chains.{position_good}
use Rattle.chaining.proofs.Walking.{of_position}
use Rattle.chaining.proofs.Answered.{position-means, no_position, no_room, walked}
use Rattle.chaining.proofs.chain_at.Goals as goal
use Rattle.chaining.proofs.chain_at.Goals.{Else-not-position_good}

pub returns-then-not-position_good : goal.returns-then-not-position_good
returns-then-not-position_good c = rw c.from.ensures (no_position _ _ _ _ c.position_good.ensures c.if-not-position_good.true)

-- the address and the depth have a key
good : (c : Else-not-position_good) →
    let a = c.args in
    position_good a.address a.depth ≡ true
good c = sym c.position_good.ensures ∙ c.if-not-position_good.false

pub overflow_add-depth : goal.overflow_add-depth
overflow_add-depth c = let p = position-means _ _ (good (goal.at.overflow_add-depth c).Else-not-position_good) in omega (arith, p.1)

pub overflow_mul-depth : goal.overflow_mul-depth
overflow_mul-depth c = let p = position-means _ _ (good (goal.at.overflow_mul-depth c).Else-not-position_good) in omega (arith, p.1)

pub returns-then-records-depth : goal.returns-then-records-depth
returns-then-records-depth c =
    rw c.from-then-records-depth.ensures (no_room _ _ _ _ (good (goal.at.returns-then-records-depth c).Else-not-position_good) c.if-records-depth.true)

pub overflow_mul-address : goal.overflow_mul-address
overflow_mul-address c = let p = position-means _ _ (good (goal.at.overflow_mul-address c).Else-not-position_good) in omega (arith, p.0)

pub overflow_add-address : goal.overflow_add-address
overflow_add-address c = let p = position-means _ _ (good (goal.at.overflow_add-address c).Else-not-position_good) in omega (arith, p.0, p.1)

pub returns-then-walk : goal.returns-then-walk
returns-then-walk c =
    let g = good (goal.at.returns-then-walk c).Else-not-position_good in
    walked _ _ _ _ g c.if-records-depth.false (of_position _ _ _ (position-means _ _ g).1 c.walk.ensures) (rw c.if-walk.true)

pub returns : goal.returns
returns c =
    let g = good (goal.at.returns c).Else-not-position_good in
    walked _ _ _ _ g c.if-records-depth.false (of_position _ _ _ (position-means _ _ g).1 c.walk.ensures) (rw c.if-walk.false)
