-- Document 01, "Refusal numbers": what each call refuses, in its order, and which stores it lists, on every table.
-- "Order: 1, 2, 3, then the rest; for insert 4 before 6; for begin 7 before 9; for step and end 8 first." Document 02, request f), adds the
-- calls shrink and back: for shrink 7 before 17.
-- Assumes nothing.
use Rattle.std.specs.Prelude.{ℕ, ◌-◌, Bool, not, cond, length, eqb, leb}
use mathlib.Core.List.{List, [], ◌∷◌, flat_map}
use Rattle.std.proofs.Math.Option.{Option, none, some}
use Rattle.rules.specs.Choice.{all, given, select, empty, first_of}
use Rattle.rules.specs.Words.{Table, header_of, header_tests, flag_of, logged_of, at_rest, interim, size_of, interim_of, levels_in_use, slots_of, key_in}
use Rattle.rules.specs.Words.{token_of, taken}
use Rattle.rules.specs.Places.{lookup}
use Rattle.rules.specs.Placing.{placing, somewhere}
use Rattle.rules.specs.Stores.{Store, clear_stores, placing_stores, update_stores, begun_of, shrunk_of, turned_of, ended_of, state_stores, step_stores}
use Rattle.rules.specs.Stores.{redo_stores}
use Rattle.rules.specs.Soundness.{finding}
use Rattle.rules.specs.declared.State.{State}
use Rattle.rules.specs.declared.Header.{Header}
use Rattle.rules.specs.declared.Level.{Level}
use Rattle.rules.specs.declared.Slot.{Slot}
use Rattle.rules.specs.declared.Record.{Record}
use Rattle.rules.specs.declared.Lookup.{Lookup}
use Rattle.rules.specs.declared.Lookup.TheVariants.{Stands, Absent}
use Rattle.rules.specs.declared.Placing.{Placing}
use Rattle.rules.specs.declared.Placing.TheVariants.{Free, Move, Nowhere}
use Rattle.rules.specs.declared.Finding.{Finding}
use Rattle.rules.specs.declared.Finding.TheVariants.{Sound, Doubled, Flagged, Neither}
use Rattle.rules.specs.declared.Refusal.{Refusal}
use Rattle.rules.specs.declared.Refusal.TheVariants.{BadHeader, ShortList, FlagSet, KeyPresent, KeyAbsent, NoPlace, AlreadyResizing, NotResizing}
use Rattle.rules.specs.declared.Refusal.TheVariants.{AtCapacity, InterimTaken, InterimEmpty, NoKind, TooSmall}

-- the calls on a table, but for create, and make, which makes their stores: document 01's, `step_from`, and request f)'s
pub data Call : Type 0 where
  query : ℕ → Call
  insert : ℕ → Record → Call
  update : ℕ → Record → Call
  delete : ℕ → Call
  begin : Call
  shrink : Call
  back : Call
  step_from : ℕ → Call
  end : Call
  recover : Call

-- ---- tests 1, 2 and 3

-- 1 | "length, form, c, multipliers or state bad"
unfoldable pub header_good : Table → Bool
header_good t = all (header_tests (length t) (header_of t))

-- 2 | "list shorter than 20 words"; n is the list's length
unfoldable pub list_long : ℕ → Bool
list_long n = leb 20 n

-- 3 | "flag not 0"
unfoldable pub flag_clear : Table → Bool
flag_clear t = eqb (flag_of t) 0

-- the first test that fails refuses, by its own refusal; where all pass, the answer is a
abbrev pub checked : {A : Type 0} → (Refusal → A) → List (Bool × Refusal) → A → A
checked refuse [] a = a
checked refuse (x ∷ xs) a = cond x.0 (checked refuse xs a) (refuse x.1)

-- 1 is given by "all but create and make", 2 by "changing calls, recovery", 3 by "all but create, make, recovery"
unfoldable pub changing_tests : Table → ℕ → List (Bool × Refusal)
changing_tests t n = (header_good t, BadHeader) ∷ (list_long n, ShortList) ∷ (flag_clear t, FlagSet) ∷ []

unfoldable pub query_tests : Table → List (Bool × Refusal)
query_tests t = (header_good t, BadHeader) ∷ (flag_clear t, FlagSet) ∷ []

unfoldable pub recover_tests : Table → ℕ → List (Bool × Refusal)
recover_tests t n = (header_good t, BadHeader) ∷ (list_long n, ShortList) ∷ []

-- ---- the calls that list stores

-- a call refuses, or lists its stores
pub data Outcome : Type 0 where
  refused : Refusal → Outcome
  listed : List Store → Outcome

-- insert: "6 | no place"; else the stores of the placing
abbrev pub placed_by : Placing → List Store → Outcome
placed_by (Free x) stores = listed stores
placed_by (Move from to) stores = listed stores
placed_by Nowhere stores = refused NoPlace

-- insert: "4 | key present"; "for insert 4 before 6"
abbrev pub insert_in : Table → Header → Lookup → ℕ → Record → Outcome
insert_in t h (Stands x n) key r = refused KeyPresent
insert_in t h (Absent n) key r = let p = placing t h key in placed_by p (placing_stores t h p key r)

-- update and delete: "5 | key absent". "Update works in whichever level the key stands."
abbrev pub update_in : Table → Header → Lookup → ℕ → Record → Outcome
update_in t h (Stands x n) key r = listed (update_stores t h x key r)
update_in t h (Absent n) key r = refused KeyAbsent

abbrev pub delete_in : Table → Header → Lookup → Outcome
delete_in t h (Stands x n) = listed (clear_stores h (token_of t x.bucket) x)
delete_in t h (Absent n) = refused KeyAbsent

-- begin: "7 | already growing", "9 | k = c"
unfoldable pub begin_tests : Header → List (Bool × Refusal)
begin_tests h = (at_rest h.state, AlreadyResizing) ∷ (not (eqb h.state.k h.c), AtCapacity) ∷ []

unfoldable pub begin_of : Header → Outcome
begin_of h = checked refused (begin_tests h) (listed (state_stores (begun_of h.state)))

-- shrink: "It needs k at least 2, else new refusal 17; a table in phase 1 or 2 refuses both begins with 7, tested first."
unfoldable pub shrink_tests : Header → List (Bool × Refusal)
shrink_tests h = (at_rest h.state, AlreadyResizing) ∷ (leb 2 h.state.k, TooSmall) ∷ []

unfoldable pub shrink_of : Header → Outcome
shrink_of h = checked refused (shrink_tests h) (listed (state_stores (shrunk_of h.state)))

-- back: "At rest it, step and end give 8."
unfoldable pub back_tests : Header → List (Bool × Refusal)
back_tests h = (not (at_rest h.state), NotResizing) ∷ []

unfoldable pub back_of : Header → Outcome
back_of h = checked refused (back_tests h) (listed (state_stores (turned_of h.state)))

-- the taken interim slots, "bucket, then slot ascending"
unfoldable pub interim_slots : State → List Slot
interim_slots s = flat_map slots_of (select (λ (l : Level). eqb l.name interim) (levels_in_use s))

unfoldable pub interim_items : Table → Header → List Slot
interim_items t h = select (taken t h) (interim_slots h.state)

-- the step that goes on: "over the interim buckets from a given one on, counted from 0 in the level"
unfoldable pub interim_bucket : State → Slot → ℕ
interim_bucket s x = x.bucket - (size_of (interim_of s) - 1)

unfoldable pub items_from : Table → Header → ℕ → List Slot
items_from t h b = select (λ (x : Slot). leb b (interim_bucket h.state x)) (interim_items t h)

-- document 02, request b): "The step must take the first interim item, in the same order, that has a place."; of those from bucket b on
unfoldable pub has_place : Table → Header → Slot → Bool
has_place t h x = somewhere (placing t h (key_in t x))

unfoldable pub step_item : Table → Header → ℕ → Option Slot
step_item t h b = first_of (λ (x : Slot). given (has_place t h x) x) (items_from t h b)

-- step: "8 | not growing", "11 | interim empty". "Refusal 6 is then given exactly when interim items remain and none has one; 11 keeps
-- its meaning."
unfoldable pub step_tests : Table → Header → ℕ → List (Bool × Refusal)
step_tests t h b = (not (at_rest h.state), NotResizing) ∷ (not (empty (items_from t h b)), InterimEmpty) ∷ []

abbrev pub step_in : Table → Header → Option Slot → Outcome
step_in t h none = refused NoPlace
step_in t h (some x) = listed (step_stores t h x (placing t h (key_in t x)))

unfoldable pub step_of : Table → Header → ℕ → Outcome
step_of t h b = checked refused (step_tests t h b) (step_in t h (step_item t h b))

-- "with 0 it IS the step"
abbrev pub step : Call
step = step_from 0

-- end: "8 | not growing", "10 | interim not empty"
unfoldable pub end_tests : Table → Header → List (Bool × Refusal)
end_tests t h = (not (at_rest h.state), NotResizing) ∷ (empty (interim_items t h), InterimTaken) ∷ []

unfoldable pub end_of : Table → Header → Outcome
end_of t h = checked refused (end_tests t h) (listed (state_stores (ended_of h.state)))

-- recover: "sound: no stores"; "clear the later ..: one store"; "function and place from words 7 and 8, then flag 0: three
-- stores"; "12 | none of the three kinds above"
abbrev pub recover_of : Table → Header → Finding → Outcome
recover_of t h Sound = listed []
recover_of t h (Doubled kept later) = listed (clear_stores h (token_of t later.bucket) later)
recover_of t h (Flagged x) = listed (redo_stores x (logged_of t))
recover_of t h Neither = refused NoKind

-- ---- a call on a table

abbrev pub tests_of : Table → ℕ → Call → List (Bool × Refusal)
tests_of t n (query key) = query_tests t
tests_of t n (insert key r) = changing_tests t n
tests_of t n (update key r) = changing_tests t n
tests_of t n (delete key) = changing_tests t n
tests_of t n begin = changing_tests t n
tests_of t n shrink = changing_tests t n
tests_of t n back = changing_tests t n
tests_of t n (step_from b) = changing_tests t n
tests_of t n end = changing_tests t n
tests_of t n recover = recover_tests t n

abbrev pub query_in : Lookup → Outcome
query_in (Stands x n) = listed []
query_in (Absent n) = refused KeyAbsent

-- what each does where the tests pass
abbrev pub act_of : Table → Header → Call → Outcome
act_of t h (query key) = query_in (lookup t h key)
act_of t h (insert key r) = insert_in t h (lookup t h key) key r
act_of t h (update key r) = update_in t h (lookup t h key) key r
act_of t h (delete key) = delete_in t h (lookup t h key)
act_of t h begin = begin_of h
act_of t h shrink = shrink_of h
act_of t h back = back_of h
act_of t h (step_from b) = step_of t h b
act_of t h end = end_of t h
act_of t h recover = recover_of t h (finding t)

-- a call on a table, with a list of n words
unfoldable pub outcome : Table → ℕ → Call → Outcome
outcome t n q = checked refused (tests_of t n q) (act_of t (header_of t) q)
