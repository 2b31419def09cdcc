-- The levels in use, and the places of a key in one, as the code goes through them.
-- Assumes nothing.
use Rattle.std.specs.Prelude.{ℕ, ◌+◌, ◌-◌, ◌%◌, ◌≡◌, List, ◌∷◌, get_or, take, drop}
use Rattle.std.specs.Int.Bits.{bit_and}
use Rattle.rules.specs.Words.{size_of, top_of, levels_in_use, place_at}
use Rattle.rules.specs.declared.State.{State}
use Rattle.rules.specs.declared.Level.{Level}
use Rattle.rules.specs.declared.Place.{Place}
use Rattle.reading.specs.declared.places.Places.{Places}

-- level n, from 0, of the rules' list
abbrev pub NthLevel : State → ℕ → Level → Type 0
NthLevel s n l = drop n (levels_in_use s) ≡ l ∷ drop (n + 1) (levels_in_use s)

-- the same level, and past their end the top
abbrev pub nth_level : State → ℕ → Level
nth_level s n = get_or (levels_in_use s) n (top_of s)

-- the place of a hash in the level of that name and first bucket
abbrev pub place_from : ℕ → ℕ → ℕ → Place
place_from name first hash = record { level = name; bucket = first + bit_and hash first }

-- the place of a hash in a level: "hash 1 modulo M", "buckets M − 1 to 2M − 2"
abbrev pub place_in : Level → ℕ → Place
place_in l hash = place_at l (size_of l - 1 + hash % size_of l)

-- the list that an array with a count holds
abbrev pub list_held : Places → List Place
list_held p = take p.n p.list
