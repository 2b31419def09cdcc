-- `growing::interim::bucket_in_level` meets its contract.
-- Assumes nothing.
use Prim.Native.Nat.{◌-◌}
use mathlib.Core.Path.{◌≡◌, ap, ◌∙◌}
use native.Mathlib.Omega.{arith}
use Rattle.rules.specs.Words.{size_of, interim_of}
use Rattle.rules.specs.Calls.{interim_bucket}
use Rattle.growing.proofs.interim.bucket_in_level.Goals as goal
use Rattle.growing.proofs.interim.bucket_in_level.Goals.{After-power}

-- how many buckets the level has
level-size : (c : After-power) → c.power.result ≡ size_of (interim_of c.args.state)
level-size c = c.power.ensures.0 ∙ ap size_of c.interim.ensures.0

pub overflow_sub-result-2 : goal.overflow_sub-result-2
overflow_sub-result-2 c = omega (arith, level-size (goal.at.overflow_sub-result-2 c).After-power, c.requires.2.0)

pub returns : goal.returns
unfolding interim_bucket
returns c = ap (λ m. c.args.x.bucket - (m - 1)) (level-size (goal.at.returns c).After-power)
