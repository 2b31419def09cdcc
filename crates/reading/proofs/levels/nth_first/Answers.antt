-- `reading::levels::nth_first` meets its contract: the interim level's own, and of top and bottom fewer ones from one to the other.
-- Assumes nothing.
use Prim.Native.Nat.{◌-◌, ◌^◌, ◌≤◌}
use native.Mathlib.Omega.{arith}
use lib.Pow.{pow_mono, shr_le}
use Rattle.rules.specs.Words.{top_of, levels_in_use}
use Rattle.rules.proofs.Basics.Walks.{stands_at_lem}
use Rattle.rules.proofs.Words.States.{state-fits}
use Rattle.rules.proofs.Words.Levels.{third_level, earlier-level}
use Rattle.reading.proofs.Placed.{ones_fewer}
use Rattle.reading.proofs.levels.nth_first.Goals as goal

pub interim-requires : goal.interim-requires
interim-requires c = (c.requires.0, (third_level _ (rw c.if-n-eq2.true at c.requires.1)).0)

pub returns-then-n-eq2 : goal.returns-then-n-eq2
returns-then-n-eq2 c =
    let third = third_level _ (rw c.if-n-eq2.true at c.requires.1) in
    let level = stands_at_lem (top_of c.args.s) (levels_in_use c.args.s) 2 third.1 in
    let size = c.power.ensures.0 in (
      rw (c.if-n-eq2.true, level, ← c.interim.ensures.0, size),
      omega (arith, size, pow_mono c.interim.ensures.1),
    )

pub power-requires-2 : goal.power-requires-2
power-requires-2 c = omega (arith, state-fits 20 _ c.requires.0)

pub overflow_shr-result : goal.overflow_shr-result
overflow_shr-result c = omega (arith, (earlier-level _ _ c.requires.1 c.if-n-eq2.false).0)

pub returns : goal.returns
returns c =
    let earlier = earlier-level _ _ c.requires.1 c.if-n-eq2.false in
    let level = stands_at_lem (top_of c.args.s) (levels_in_use c.args.s) c.args.n earlier.1 in
    let size = c.power-2.ensures.0 in
    let low : 2 ^ c.args.s.k ≤ 2 ^ 20 = pow_mono (state-fits 20 _ c.requires.0).1 in (
      rw (level, size) (ones_fewer c.args.s.k c.args.n (omega (arith, earlier.0, state-fits 20 _ c.requires.0))),
      omega (arith, size, c.power-2.ensures.1, low, shr_le (c.power-2.result - 1) c.args.n),
    )
