-- Request d), "samples for each function named": over the functions that samples name, in input order.
-- Assumes nothing.
use Rattle.std.specs.Prelude.{ℕ, suc, ◌+◌, Bool, true, false, cond, List, [], ◌∷◌, ◌++◌, take, drop, ◌==◌, nat_lt}

-- whether a function is in a list
abbrev pub has : ℕ → List ℕ → Bool
has f [] = false
has f (g ∷ gs) = cond (g == f) true (has f gs)

-- "different functions in input order": a function is new where no earlier sample names it
abbrev pub with_new : List ℕ → ℕ → List ℕ
with_new seen f = cond (has f seen) seen (seen ++ (f ∷ []))

abbrev pub different_from : List ℕ → List ℕ → List ℕ
different_from seen [] = seen
different_from seen (f ∷ fs) = different_from (with_new seen f) fs

-- "The first 512 different functions in input order are counted"
unfoldable pub counted_of : List ℕ → List ℕ
counted_of named = take 512 (different_from [] named)

-- how many samples name a function
unfoldable pub times_in : ℕ → List ℕ → ℕ
times_in f [] = 0
times_in f (g ∷ gs) = cond (g == f) 1 0 + times_in f gs

-- "samples of further ones count as `other`"
unfoldable pub further_in : List ℕ → List ℕ → ℕ
further_in counted [] = 0
further_in counted (f ∷ fs) = cond (has f counted) 0 1 + further_in counted fs

-- "one `fn` line for each function ascending": a function stands behind those that are below it
abbrev pub place_for : ℕ → List ℕ → ℕ
place_for f [] = 0
place_for f (g ∷ gs) = cond (nat_lt g f) (suc (place_for f gs)) 0

abbrev pub inserted_at : ℕ → ℕ → List ℕ → List ℕ
inserted_at at f gs = take at gs ++ (f ∷ drop at gs)

abbrev pub ascending_from : List ℕ → List ℕ → List ℕ
ascending_from placed [] = placed
ascending_from placed (f ∷ fs) = ascending_from (inserted_at (place_for f placed) f placed) fs

unfoldable pub ascending : List ℕ → List ℕ
ascending fs = ascending_from [] fs
