-- What query promises: the answer that document 01 fixes, on every table and key; and the table, which is only read, stays.
-- Assumes nothing.
use Rattle.std.specs.Prelude.{ℕ, ◌+◌, ◌≤◌, ◌≡◌, true, cond, List, [], ◌∷◌, get_or}
use Rattle.std.proofs.Math.Option.{Option, none, some}
use Rattle.rules.specs.Words.{Table, header_of, at_rest}
use Rattle.rules.specs.Places.{places_of, hit_in}
use Rattle.rules.specs.Calls.{header_good, flag_clear}
use Rattle.rules.specs.Answers.{Meaning, query_means}
use Rattle.rules.specs.Results.{query_result}
use Rattle.rules.specs.declared.Place.{Place}
use Rattle.rules.specs.declared.Slot.{Slot}
use Rattle.rules.specs.Answers.{Query}

-- "Its probe count is the number of buckets looked at up to and including that one, or all of them when the key is absent":
-- the position, from 1, of the first bucket of a list that has the key, or the list's length
abbrev pub here_or : Option Slot → ℕ → ℕ
here_or (some x) n = 1
here_or none n = n + 1

abbrev pub position : (Place → Option Slot) → List Place → ℕ
position hit [] = 0
position hit (p ∷ ps) = here_or (hit p) (position hit ps)

-- in the list of distinct probed buckets; "with 1 or 3 zeros and count 0"
unfoldable pub probe_count : Table → ℕ → ℕ
probe_count t key =
    cond (header_good t) (cond (flag_clear t) (position (hit_in t (header_of t) key) (places_of (header_of t) key)) 0) 0

-- the third value of the answer
abbrev pub count_of : Meaning → ℕ
count_of m = get_or m.values 2 0

-- query answers a number and its values: those of document 01, and of the count: that position, at most four at rest and six while
-- growing or shrinking. u is the table at exit
pub record QueriedBy (t : Table) (key : ℕ) (told : Meaning) (u : Table) : Type 0 where
  pub answer : told ≡ query_means (query_result t key)
  pub count : count_of told ≡ probe_count t key
  pub few : count_of told ≤ 6
  pub rest : at_rest (header_of t).state ≡ true → count_of told ≤ 4
  pub table : u ≡ t

abbrev pub Queried : Table → ℕ → Query → Table → Type 0
Queried t key r u = QueriedBy t key (query_means r) u
