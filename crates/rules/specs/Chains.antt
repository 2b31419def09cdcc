-- Document 02, request a), "Show the inlined callers": the chain of an address, on every input.
-- Assumes nothing.
use Rattle.std.specs.Prelude.{ℕ, zero, suc, ◌+◌, ◌*◌, ◌^◌, Bool, ◌&&◌, List, [], ◌∷◌, ◌++◌, map, length, leb, ltb, Ok, Err}
use Rattle.rules.specs.Words.{Table, header_of}
use Rattle.rules.specs.Places.{lookup}
use Rattle.rules.specs.Stores.{written}
use Rattle.rules.specs.Calls.{checked, query_tests}
use Rattle.rules.specs.Results.{query_at}
use Rattle.rules.specs.declared.Header.{Header}
use Rattle.rules.specs.declared.Record.{Record}
use Rattle.rules.specs.declared.Refusal.{Refusal}
use Rattle.rules.specs.declared.Refusal.TheVariants.{KeyAbsent, ShortRecords, BadPosition}
use Rattle.rules.specs.Answers.{Query, Chain, breaks}

-- document 01: "A key is address·256 + inlining depth"
unfoldable pub key_of : ℕ → ℕ → ℕ
key_of address depth = address * 256 + depth

-- what a walk finds: a record for each depth, in the order of the walk, or that one is missing; and the buckets looked at
pub data Walk : Type 0 where
  found : List Record → ℕ → Walk
  missing : ℕ → Walk

-- the query of one depth, before what the smaller depths give. "The count is the sum of the queries' probe counts down to the last depth
-- asked, the missing one included"
abbrev pub before : Query → Walk → Walk
before (Ok x) (found rs m) = found (x.what ∷ rs) (x.looked + m)
before (Ok x) (missing m) = missing (x.looked + m)
before (Err x) below = missing x.looked

-- "The walk takes the record of one depth and then does the same for the next smaller one", down to 0; asks gives each depth's query
unfoldable pub walk : (ℕ → Query) → ℕ → Walk
walk asks zero = before (asks zero) (found [] 0)
walk asks (suc depth) = before (asks (suc depth)) (walk asks depth)

unfoldable pub query_of : Table → Header → ℕ → ℕ → Query
query_of t h address depth = query_at t (lookup t h (key_of address depth))

-- "The records go to lent words, two each"
abbrev pub two_words : Record → ℕ × ℕ
two_words r = (r.function, r.place)

-- "fewer than 2(d + 1) words give a new refusal 15"; n is the number of lent words
unfoldable pub records_long : ℕ → ℕ → Bool
records_long depth n = leb (2 * (depth + 1)) n

-- "an address of 2^56 or more, or a depth above 255, gives 16"
unfoldable pub position_good : ℕ → ℕ → Bool
position_good address depth = ltb address (2 ^ 56) && leb depth 255

-- "These are checked after 1 and 3, 16 before 15."
unfoldable pub position_tests : ℕ → ℕ → ℕ → List (Bool × Refusal)
position_tests address depth n = (position_good address depth, BadPosition) ∷ (records_long depth n, ShortRecords) ∷ []

unfoldable pub chain_tests : Table → ℕ → ℕ → ℕ → List (Bool × Refusal)
chain_tests t address depth n = query_tests t ++ position_tests address depth n

-- "The first missing depth gives 5 and nothing is written; success writes just those words." l is the lent words at entry
abbrev pub chain_of : Walk → List ℕ → Chain × List ℕ
chain_of (found rs n) l = (Ok n, written (map two_words rs) l)
chain_of (missing n) l = (breaks KeyAbsent n, l)

-- the answer, and the lent words at exit. The count is "0 with other refusals". The table is only read, and there is no list
unfoldable pub chain_result : Table → ℕ → ℕ → List ℕ → Chain × List ℕ
chain_result t address depth l =
    checked (λ (r : Refusal). (breaks r 0, l)) (chain_tests t address depth (length l)) (chain_of (walk (query_of t (header_of t) address) depth) l)
