-- A walk as the code makes it: the records are written on the way back, from a pair of the lent words on.
-- Assumes nothing.
use Rattle.std.specs.Prelude.{ℕ, ◌+◌, ◌≡◌, Bool, true, false, List, [], ◌∷◌, map, length, Ok}
use Rattle.rules.specs.Words.{Table, header_of}
use Rattle.rules.specs.Calls.{checked}
use Rattle.rules.specs.Chains.{position_tests, Walk, found, missing, walk, query_of, two_words, chain_of}
use Rattle.rules.specs.declared.Record.{Record}
use Rattle.rules.specs.declared.Refusal.{Refusal}
use Rattle.rules.specs.declared.Refusal.TheVariants.{KeyAbsent}
use Rattle.rules.specs.Answers.{Chain, breaks}
use Rattle.listing.specs.Listing.{listed_at}

-- one record more, as pair i, where the smaller depths have theirs
abbrev pub put_at : Bool → ℕ → Record → List ℕ → List ℕ
put_at true i r l = listed_at l i (two_words r ∷ [])
put_at false i r l = l

-- what a walk w says: whether every depth has a record; the buckets looked at; and the lent words l with the records from pair i on
abbrev pub all_found : Walk → Bool
all_found (found rs n) = true
all_found (missing n) = false

abbrev pub looked_at : Walk → ℕ
looked_at (found rs n) = n
looked_at (missing n) = n

abbrev pub laid_at : Walk → ℕ → List ℕ → List ℕ
laid_at (found rs n) i l = listed_at l i (map two_words rs)
laid_at (missing n) i l = l

-- what the chain answers by it
abbrev pub answered : Bool → ℕ → Chain
answered true count = Ok count
answered false count = breaks KeyAbsent count

-- with lent words l and a count n, the walk answers r and leaves lent words m and a count k
pub record Walked (w : Walk) (i : ℕ) (l : List ℕ) (n : ℕ) (r : Bool) (m : List ℕ) (k : ℕ) : Type 0 where
  pub answer : r ≡ all_found w
  pub count : k ≡ n + looked_at w
  pub records : m ≡ laid_at w i l

-- behind the tests 1 and 3
abbrev pub chain_in : Table → ℕ → ℕ → List ℕ → Chain × List ℕ
chain_in t address depth l =
    checked (λ (r : Refusal). (breaks r 0, l)) (position_tests address depth (length l))
    (chain_of (walk (query_of t (header_of t) address) depth) l)

pub record ChainedAt (t : Table) (address depth : ℕ) (l : List ℕ) (c : Chain) (m : List ℕ) : Type 0 where
  pub answer : c ≡ (chain_in t address depth l).0
  pub records : m ≡ (chain_in t address depth l).1
