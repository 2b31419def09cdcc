-- "The first 512 different functions in input order are counted; samples of further ones count as `other`.", as cases that are computed.
-- Assumes nothing.
use Rattle.std.specs.Prelude.{◌≡◌, ℕ, zero, suc, ◌+◌, List, [], ◌∷◌, ◌++◌, replicate, refl}
use Rattle.tallying.specs.Functions.{counted_of, times_in, further_in, ascending}
use Rattle.tallying.specs.Credits.{credits_of}

-- so many numbers, up from one and down to one
abbrev pub up_from : ℕ → ℕ → List ℕ
up_from zero f = []
up_from (suc n) f = f ∷ up_from n (f + 1)

abbrev pub down_to : ℕ → ℕ → List ℕ
down_to zero f = []
down_to (suc n) f = (f + n) ∷ down_to n f

-- 513 functions in descending order, and the last and the first of them once more: the smallest is the one that is not counted, and those that
-- are stand in ascending order
pub further_computed : credits_of (down_to 513 7 ++ (7 ∷ 519 ∷ []))
    ≡ record { functions = up_from 512 8; samples = replicate 511 1 ++ (2 ∷ []); other = 2 }
unfolding counted_of times_in further_in ascending credits_of
further_computed = refl
