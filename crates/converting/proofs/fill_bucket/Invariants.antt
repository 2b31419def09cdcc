-- `converting::fill_bucket` meets its contract.
-- Assumes nothing.
use Prim.Native.Nat.{◌-◌}
use mathlib.Core.Path.{◌≡◌}
use lib.ListN.{drop}
use Rattle.rules.specs.Words.{slots_in, token_of}
use Rattle.converting.specs.Fillings.{items_in}
use Rattle.converting.proofs.Filling.{Left}
use Rattle.converting.proofs.fill_bucket.Given as goal

abbrev pub invariant-loop-s : goal.invariant-loop-s
invariant-loop-s l = Left l.t l.to l.initial.second (items_in l.t l.h (slots_in l.p)) l.second (items_in l.t l.h (drop l.s (slots_in l.p))) × (l.word ≡ token_of l.t l.p.bucket)

abbrev pub decreases-loop-s : goal.decreases-loop-s
decreases-loop-s l = 4 - l.s
