-- `collector::report` meets its contract.
-- Assumes nothing.
use Prim.Native.Nat.{ℕ}
use mathlib.Core.Path.{ap}
use mathlib.Core.List.{[], ◌∷◌}
use Rattle.numbering.specs.Told.{told_with}
use Rattle.collector.proofs.report.Goals as goal

pub returns-in-Err : goal.returns-in-Err
returns-in-Err c = rw c.in-Err.is (ap (λ (n : ℕ). told_with n (0 ∷ [])) c.number.ensures)
