-- The places of a key as the lookup goes through them: by turns the first and the second place of each level, the second left
-- out where it is the first again.
-- Assumes nothing.
use Rattle.std.specs.Prelude.{ℕ, ◌/◌, ◌%◌, Bool, not, cond, ◌||◌, List, get_or, eqb}
use Rattle.rules.specs.Words.{top_of, levels_in_use}
use Rattle.rules.specs.declared.State.{State}
use Rattle.rules.specs.declared.Level.{Level}
use Rattle.rules.specs.declared.Hashes.{Hashes}
use Rattle.rules.specs.declared.Place.{Place}
use Rattle.reading.specs.Levels.{place_in}

-- place i of a key in some levels; d is the level past their end, where there is no place
unfoldable pub place_of_turn : Level → List Level → Hashes → ℕ → Place
place_of_turn d ls x i = place_in (get_or ls (i / 2) d) (cond (eqb (i % 2) 0) x.first x.second)

-- and in the levels in use
unfoldable pub nth_place : State → Hashes → ℕ → Place
nth_place s x i = place_of_turn (top_of s) (levels_in_use s) x i

-- place i, in a bucket, after the place before it in bucket `last`
unfoldable pub fresh : ℕ → ℕ → ℕ → Bool
fresh i bucket last = eqb (i % 2) 0 || not (eqb last bucket)
