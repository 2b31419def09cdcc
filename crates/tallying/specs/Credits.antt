-- What is counted, all at once and sample by sample.
-- Assumes nothing.
use Rattle.std.specs.Prelude.{◌≡◌, ℕ, ◌+◌, ◌%◌, ◌^◌, ◌<◌, cond, List, [], ◌∷◌, map, length, ◌==◌, slice_index, slice_set}
use Rattle.tallying.specs.Functions.{has, counted_of, times_in, further_in, place_for, inserted_at, ascending}

-- the functions that are counted, the samples of each, and those of the others. Counts are whole numbers below 2^64
pub record Credits : Type 0 where
  pub functions : List ℕ
  pub samples : List ℕ
  pub other : ℕ

unfoldable pub credits_of : List ℕ → Credits
credits_of named =
    let fs = ascending (counted_of named) in
    record { functions = fs; samples = map (λ (f : ℕ). times_in f named % 2 ^ 64) fs; other = further_in (counted_of named) named % 2 ^ 64 }

-- ---- sample by sample

-- one sample more: of the function at a place, of one that is counted from now on, of another
abbrev pub one_more : ℕ → Credits → Credits
one_more at x = record { functions = x.functions; samples = slice_set x.samples at ((slice_index x.samples at + 1) % 2 ^ 64); other = x.other }

abbrev pub one_new : ℕ → ℕ → Credits → Credits
one_new at f x = record { functions = inserted_at at f x.functions; samples = inserted_at at 1 x.samples; other = x.other }

abbrev pub one_other : Credits → Credits
one_other x = record { functions = x.functions; samples = x.samples; other = (x.other + 1) % 2 ^ 64 }

unfoldable pub credited : ℕ → Credits → Credits
credited f x =
    let at = place_for f x.functions in
    cond (has f x.functions) (one_more at x) (cond (length x.functions == 512) (one_other x) (one_new at f x))

-- ---- what the code promises

-- a function is below all of these, and in ascending order each is below all that follow it
abbrev pub Below : ℕ → List ℕ → Type 0
Below f [] = Unit {0}
Below f (g ∷ gs) = (f < g) × Below f gs

abbrev pub Ascending : List ℕ → Type 0
Ascending [] = Unit {0}
Ascending (f ∷ fs) = Below f fs × Ascending fs

-- before any sample
abbrev pub no_credits : Credits
no_credits = record { functions = []; samples = []; other = 0 }

-- x is what is counted at entry, and r at exit
abbrev pub Credited : ℕ → Credits → Credits → Type 0
Credited f x r = r ≡ credited f x
