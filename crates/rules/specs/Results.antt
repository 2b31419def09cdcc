-- The calls: what each answers, and what every buffer lent to it holds at exit, on every input, good or bad.
-- A buffer that a call only reads holds at exit what it held at entry, and is not named in its result.
-- Assumes nothing.
use Rattle.std.specs.Prelude.{ℕ, ◌*◌, ◌-◌, Bool, cond, List, [], ◌∷◌, map, length, replicate, eqb, leb, ltb, Ok, Err}
use Rattle.std.proofs.Math.Option.{Option, none, some}
use Rattle.rules.specs.Choice.{all}
use Rattle.rules.specs.Forms.{form_good}
use Rattle.rules.specs.Words.{Table, words_for, odd, capacity_tests, state_word, header_of, spot_of, key_in, record_in}
use Rattle.rules.specs.Places.{lookup}
use Rattle.rules.specs.Placing.{placing}
use Rattle.rules.specs.Stores.{Store, written, pairs, made}
use Rattle.rules.specs.Calls.{checked, query_tests, Outcome, refused, listed, Call, step_from, interim_bucket, step_item, outcome}
use Rattle.rules.specs.declared.Header.{Header}
use Rattle.rules.specs.declared.Slot.{Slot}
use Rattle.rules.specs.declared.Lookup.{Lookup}
use Rattle.rules.specs.declared.Lookup.TheVariants.{Stands, Absent}
use Rattle.rules.specs.declared.Placing.{Placing}
use Rattle.rules.specs.declared.Placing.TheVariants.{Nowhere}
use Rattle.rules.specs.declared.Refusal.{Refusal}
use Rattle.rules.specs.declared.Refusal.TheVariants.{KeyAbsent, BadCreation, BadMaking}
use Rattle.rules.specs.Answers.{Change, Query, knows, misses, Verdict}
use Rattle.rules.specs.declared.Stepped.{Stepped}
use Rattle.rules.specs.declared.SteppedFrom.{SteppedFrom}

-- "A refusal changes no buffer and reports 0 stores. A changing call or recovery that succeeds writes only the list's
-- first 2·stores words."
abbrev pub change_of : Outcome → Change
change_of (refused r) = Err r
change_of (listed stores) = Ok (length stores)

abbrev pub list_after : Outcome → List ℕ → List ℕ
list_after (refused r) l = l
list_after (listed stores) l = written stores l

-- insert, update, delete, begin, end, recover: the answer, and the list l at exit. The table is only read. (Of step and query
-- this is what they share with the others; what they answer beside it is below.)
unfoldable pub change_result : Table → List ℕ → Call → Change × List ℕ
change_result t l q = (change_of (outcome t (length l) q), list_after (outcome t (length l) q) l)

-- step_from: the same, with the placing of the item that it takes in its answer, "and the bucket (counted the same) in which the item stood,
-- to go on from"; "the bucket told with a refusal is 0"
abbrev pub step_placing : Table → Header → Outcome → Option Slot → Placing
step_placing t h (refused r) o = Nowhere
step_placing t h (listed stores) none = Nowhere
step_placing t h (listed stores) (some x) = placing t h (key_in t x)

abbrev pub step_bucket : Header → Outcome → Option Slot → ℕ
step_bucket h (refused r) o = 0
step_bucket h (listed stores) none = 0
step_bucket h (listed stores) (some x) = interim_bucket h.state x

unfoldable pub step_from_result : Table → ℕ → List ℕ → SteppedFrom × List ℕ
step_from_result t b l =
    let o = outcome t (length l) (step_from b) in
    let item = step_item t (header_of t) b in
    let stepped : Stepped = record { change = change_of o; placing = step_placing t (header_of t) o item } in
    (record { stepped = stepped; bucket = step_bucket (header_of t) o item }, list_after o l)

-- step: "step_from with 0", without the bucket
unfoldable pub step_result : Table → List ℕ → Stepped × List ℕ
step_result t l = ((step_from_result t 0 l).0.stepped, (step_from_result t 0 l).1)

-- query: "Query returns zeros with 5 and the full probe count; with 1 or 3 zeros and count 0." Document 02, request e): "The inner lookup, and
-- query with it, must also return the word index of the key found and whether it was top, bottom or interim". It writes no buffer
abbrev pub query_at : Table → Lookup → Query
query_at t (Stands x n) = knows (record_in t x) (spot_of x) n
query_at t (Absent n) = misses KeyAbsent n

unfoldable pub query_result : Table → ℕ → Query
query_result t key = checked (λ (r : Refusal). misses r 0) (query_tests t) (query_at t (lookup t (header_of t) key))

-- create: "13 | c, first k (1 to c), length or a multiplier bad"; document 02, request g): "Creation is told the form; any but 1 and 2 gives 13".
-- The lent words are the table at entry and at exit
unfoldable pub create_tests : ℕ → ℕ → ℕ → ℕ → ℕ → ℕ → List Bool
create_tests size form c k mul1 mul2 = form_good form ∷ all (capacity_tests c) ∷ leb 1 k ∷ leb k c ∷ eqb size (words_for c) ∷ odd mul1 ∷ odd mul2 ∷ []

-- "Creation zeroes all words and writes the header."
unfoldable pub created : ℕ → ℕ → ℕ → ℕ → ℕ → Table
created form c k mul1 mul2 = form ∷ c ∷ mul1 ∷ mul2 ∷ state_word (record { k = k; phase = 0 }) ∷ replicate (words_for c - 5) 0

unfoldable pub create_result : Table → ℕ → ℕ → ℕ → ℕ → ℕ → Verdict × Table
create_result t form c k mul1 mul2 = cond (all (create_tests (length t) form c k mul1 mul2)) (Ok tt, created form c k mul1 mul2) (Err BadCreation, t)

-- make: "14 | n pairs are not in the list, or an index among them is outside the table". The list is only read
unfoldable pub make_tests : Table → List ℕ → ℕ → List Bool
make_tests t l n = leb (2 * n) (length l) ∷ all (map (λ (x : Store). ltb x.0 (length t)) (pairs n l)) ∷ []

unfoldable pub make_result : Table → List ℕ → ℕ → Verdict × Table
make_result t l n = cond (all (make_tests t l n)) (Ok tt, made t (pairs n l)) (Err BadMaking, t)
