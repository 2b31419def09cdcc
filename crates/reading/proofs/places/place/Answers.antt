-- `reading::places::place` meets its contract.
-- Assumes nothing.
use Prim.Native.Nat.{ℕ, ◌-◌, ◌^◌, ◌≤◌}
use mathlib.Core.Path.{ap}
use native.Mathlib.Omega.{arith}
use lib.Pow.{pow_mono}
use Rattle.reading.proofs.Placed.{placed}
use Rattle.reading.proofs.places.place.Goals as goal

pub place_from-requires : goal.place_from-requires
place_from-requires c =
    let m : 2 ^ c.args.l.exponent ≤ 2 ^ 20 = pow_mono c.requires in
    omega (arith, c.power.ensures.0, c.power.ensures.1)

pub returns : goal.returns
returns c = placed c.args.l _ (ap (λ (n : ℕ). n - 1) c.power.ensures.0) c.place_from.ensures
