-- Document 01, "Marked examples": E1 to E11 as one table under one statement, computed from the rules.
--
-- A row holds what the rules compute and what document 01 writes. Where document 01 names no record, the row holds for
-- whatever record r gives a key. Tables come about as a caller makes them: created in used words, each call with a list
-- of 20 words, the stores that it reports made from that list. "top bucket 0" of E8 is bucket 1, whose token word is 22. Word and level in
-- the answers of queries are document 02's, request e).
-- Assumes nothing.
use Rattle.std.specs.Prelude.{ℕ, ◌+◌, ◌%◌, ◌≡◌, refl, Bool, true, cond, get_or, replicate, eqb}
use mathlib.Core.List.{List, [], ◌∷◌, map, flat_map}
use Rattle.words.specs.Product.{product_of, hash_of}
use Rattle.rules.specs.Choice.{select}
use Rattle.rules.specs.Forms.{form_good, tagged, mixed, tag_of}
use Rattle.rules.specs.Words.{keys_of, word_read, tag_in, mark_meant}
use Rattle.rules.specs.Places.{fits}
use Rattle.rules.specs.Words.{Table, word, words_for, state_of, state_word, at_rest, shrinking, header_of, flag_of, target_of, logged_of, state_good, odd}
use Rattle.rules.specs.Words.{capacity_tests, header_tests, top_of, bottom_of, interim_of, levels_in_use, buckets_of, all_buckets, exponent_in_use}
use Rattle.rules.specs.Words.{unused_buckets, slot_at, slots_in, place_of, place_at, slots_of, slots_in_use, token_word, key_word, spot_of, function_word}
use Rattle.rules.specs.Words.{place_word, key_in, record_in, token_of, token_number, is_taken, show, hide, taken_of, meant, taken, meant_of}
use Rattle.rules.specs.Places.{hashes_of, first_place, second_place, same_place, places_in, probes, places_of, holds, hit_in, lookup}
use Rattle.rules.specs.Placing.{taken_in, free_slot, fewer, emptier, room_in, other_place, items_of, candidates, move_of, placing}
use Rattle.rules.specs.Stores.{Store, pairs, put_stores, clear_stores, move_stores, placing_stores, redo_stores, update_stores, state_stores}
use Rattle.rules.specs.Stores.{step_stores, written}
use Rattle.rules.specs.Soundness.{taken_slots, tokens_tidy, unused_empty, in_place, orderly_tests, same_key, twins, same_record, target, finding}
use Rattle.rules.specs.Answers.{change_means, query_means}
use Rattle.rules.specs.Calls.{header_good, list_long, flag_clear, changing_tests, query_tests, recover_tests, begin_tests, begin_of, interim_slots}
use Rattle.rules.specs.Calls.{interim_items, interim_bucket, items_from, has_place, step_item, step_tests, step_of, end_tests, end_of, Call, insert, update}
use Rattle.rules.specs.Calls.{delete, begin, step, recover, outcome}
use Rattle.rules.specs.Results.{change_result, query_result, create_tests, created, create_result, make_tests, make_result}
use Rattle.rules.specs.declared.Record.{Record}
use Rattle.rules.specs.Answers.{Change}

-- what a clause speaks of: the stores that a call lists, the number of its refusal, a query's number and values, or words
pub data Shown : Type 0 where
  lists : List Store → Shown
  refuses : ℕ → Shown
  tells : ℕ → List ℕ → Shown
  words : List ℕ → Shown

pub record Row : Type 0 where
  pub example : ℕ
  pub computed : Shown
  pub paper : Shown

abbrev pub row : ℕ → Shown → Shown → Row
row e c p = record { example = e; computed = c; paper = p }

-- ---- what a caller does and sees, with a list of 20 words

abbrev pub called : Table → Call → Change × List ℕ
called t q = change_result t (replicate 20 0) q

abbrev pub number : Table → Call → ℕ
number t q = (change_means (called t q).0).number

abbrev pub stores : Table → Call → ℕ
stores t q = get_or (change_means (called t q).0).values 0 0

abbrev pub sees : Table → Call → Shown
sees t q = cond (eqb (number t q) 0) (lists (pairs (stores t q) (called t q).1)) (refuses (number t q))

abbrev pub asks : Table → ℕ → Shown
asks t key = let a = query_means (query_result t key) in tells a.number a.values

-- the table after the first n stores of a call's list, and after all that it reports
unfoldable pub made_first : Table → Call → ℕ → Table
made_first t q n = (make_result t (called t q).1 n).1

unfoldable pub made_all : Table → Call → Table
made_all t q = made_first t q (stores t q)

-- keys inserted one after the other, and the numbers answered
abbrev pub inserted : (ℕ → Record) → Table → List ℕ → Table
inserted r t [] = t
inserted r t (key ∷ keys) = inserted r (made_all t (insert key (r key))) keys

abbrev pub answered : (ℕ → Record) → Table → List ℕ → List ℕ
answered r t [] = []
answered r t (key ∷ keys) = number t (insert key (r key)) ∷ answered r (made_all t (insert key (r key))) keys

-- "c = 2, k = 1", in the form f; "these multipliers" are those of the script program's case
unfoldable pub fresh_in : ℕ → ℕ → ℕ → Table
fresh_in f mul1 mul2 = (create_result (replicate 100 7) f 2 1 mul1 mul2).1

unfoldable pub usual_in : ℕ → Table
usual_in f = fresh_in f 4294967297 12884901889

abbrev pub record_of : ℕ → ℕ → Record
record_of f p = record { function = f; place = p }

-- ---- the tables that the examples name

unfoldable pub after_e1_in : ℕ → Table
after_e1_in f = made_all (usual_in f) (insert 1 (record_of 10 20))

unfoldable pub before_e6 : ℕ → (ℕ → Record) → Table
before_e6 f r = inserted r (usual_in f) (1 ∷ 3 ∷ 5 ∷ 7 ∷ [])

unfoldable pub before_e8_in : ℕ → (ℕ → Record) → Table
before_e8_in f r = inserted r (usual_in f) (1 ∷ 3 ∷ 5 ∷ 7 ∷ 9 ∷ 11 ∷ 13 ∷ 15 ∷ [])

unfoldable pub half_e9 : ℕ → (ℕ → Record) → Table
half_e9 f r = inserted r (usual_in f) (0 ∷ 2 ∷ 4 ∷ 6 ∷ 8 ∷ [])

unfoldable pub before_e9 : ℕ → (ℕ → Record) → Table
before_e9 f r = inserted r (made_all (half_e9 f r) (delete 0)) (1 ∷ 3 ∷ 5 ∷ 7 ∷ 9 ∷ 11 ∷ 13 ∷ [])

unfoldable pub half_e11 : ℕ → (ℕ → Record) → Table
half_e11 f r = inserted r (fresh_in f 4294967297 4294967297) (0 ∷ 4 ∷ 8 ∷ 12 ∷ 16 ∷ 20 ∷ 24 ∷ 28 ∷ [])

unfoldable pub before_e11 : ℕ → (ℕ → Record) → Table
before_e11 f r = inserted r (made_all (half_e11 f r) begin) (32 ∷ 36 ∷ 40 ∷ 44 ∷ [])

-- those of form 1 that other cases start from
abbrev pub fresh : ℕ → ℕ → Table
fresh mul1 mul2 = fresh_in 1 mul1 mul2

abbrev pub usual : Table
usual = usual_in 1

abbrev pub after_e1 : Table
after_e1 = after_e1_in 1

abbrev pub before_e8 : (ℕ → Record) → Table
before_e8 r = before_e8_in 1 r

-- of a call's stores, the words that they go to, and what is stored to token words, 9 + 13j
abbrev pub indexes : List Store → List ℕ
indexes xs = map (λ (x : Store). x.0) xs

abbrev pub tokens : List Store → List ℕ
tokens xs = map (λ (x : Store). x.1) (select (λ (x : Store). eqb ((x.0 + 4) % 13) 0) xs)

abbrev pub list_of : Table → Call → List Store
list_of t q = pairs (stores t q) (called t q).1

-- ---- the table

-- what the examples take as done was answered with 0
unfoldable pub ready : ℕ → (ℕ → Record) → List Row
ready f r =
    row 6 (words (answered r (usual_in f) (1 ∷ 3 ∷ 5 ∷ 7 ∷ []))) (words (0 ∷ 0 ∷ 0 ∷ 0 ∷ []))
    ∷ row 8 (words (answered r (usual_in f) (1 ∷ 3 ∷ 5 ∷ 7 ∷ 9 ∷ 11 ∷ 13 ∷ 15 ∷ []))) (words (replicate 8 0))
    ∷ row 9 (words (answered r (usual_in f) (0 ∷ 2 ∷ 4 ∷ 6 ∷ 8 ∷ []))) (words (replicate 5 0))
    ∷ row 9 (words (number (half_e9 f r) (delete 0) ∷ answered r (made_all (half_e9 f r) (delete 0)) (1 ∷ 3 ∷ 5 ∷ 7 ∷ 9 ∷ 11 ∷ 13 ∷ [])))
    (words (replicate 8 0))
    ∷ row 11 (words (answered r (fresh_in f 4294967297 4294967297) (0 ∷ 4 ∷ 8 ∷ 12 ∷ 16 ∷ 20 ∷ 24 ∷ 28 ∷ []))) (words (replicate 8 0))
    ∷ row 11 (words (number (half_e11 f r) begin ∷ answered r (made_all (half_e11 f r) begin) (32 ∷ 36 ∷ 40 ∷ 44 ∷ []))) (words (replicate 5 0))
    ∷ []

unfoldable pub marked : ℕ → (ℕ → Record) → List Row
marked f r =
    row 1 (sees (usual_in f) (insert 1 (record_of 10 20))) (lists ((36, 1) ∷ (37, 10) ∷ (38, 20) ∷ (35, 1) ∷ []))
    ∷ row 2 (asks (after_e1_in f) 1) (tells 0 (10 ∷ 20 ∷ 1 ∷ 36 ∷ 0 ∷ []))
    ∷ row 2 (asks (after_e1_in f) 3) (tells 5 (0 ∷ 0 ∷ 2 ∷ 0 ∷ 0 ∷ []))
    ∷ row 3 (sees (after_e1_in f) (insert 1 (r 1))) (refuses 4)
    ∷ row 4 (sees (after_e1_in f) (delete 1)) (lists ((35, 0) ∷ []))
    ∷ row 5 (sees (after_e1_in f) (update 1 (record_of 30 40))) (lists ((39, 1) ∷ (40, 30) ∷ (41, 40) ∷ (35, 2) ∷ []))
    ∷ row 6 (sees (before_e6 f r) (update 1 (record_of 30 40))) (lists ((6, 36) ∷ (7, 30) ∷ (8, 40) ∷ (5, 1) ∷ (37, 30) ∷ (38, 40) ∷ (5, 0) ∷ []))
    ∷ row 7 (sees (made_first (before_e6 f r) (update 1 (record_of 30 40)) 5) recover) (lists ((37, 30) ∷ (38, 40) ∷ (5, 0) ∷ []))
    ∷ row 7 (sees (made_first (before_e6 f r) (update 1 (record_of 30 40)) 3) recover) (lists [])
    ∷ row 7 (asks (made_all (made_first (before_e6 f r) (update 1 (record_of 30 40)) 3) recover) 1)
    (tells 0 ((r 1).function ∷ (r 1).place ∷ 1 ∷ 36 ∷ 0 ∷ []))
    ∷ row 8 (sees (before_e8_in f r) (insert 17 (r 17))) (refuses 6)
    ∷ row 8 (words (word (before_e8_in f r) 22 ∷ [])) (words (0 ∷ []))
    ∷ row 9 (words (indexes (list_of (before_e9 f r) (insert 15 (r 15))))) (words (23 ∷ 24 ∷ 25 ∷ 22 ∷ 9 ∷ 10 ∷ 11 ∷ 12 ∷ 9 ∷ []))
    ∷ row 9 (words (tokens (list_of (before_e9 f r) (insert 15 (r 15))))) (words (15 ∷ 14 ∷ 15 ∷ []))
    ∷ row 10 (sees (before_e8_in f r) begin) (lists ((4, 258) ∷ []))
    ∷ row 10 (sees (made_all (before_e8_in f r) begin) step) (lists ((62, 9) ∷ (63, (r 9).function) ∷ (64, (r 9).place) ∷ (61, 1) ∷ (9, 14) ∷ []))
    ∷ row 11 (sees (before_e11 f r) step) (refuses 6)
    ∷ ready f r

-- where this is unfolded every rule computes
unfoldable pub opened : Bool
unfolding product_of hash_of flat_map words_for state_of state_word at_rest shrinking header_of flag_of target_of logged_of state_good odd capacity_tests header_tests top_of
    bottom_of interim_of levels_in_use buckets_of all_buckets exponent_in_use unused_buckets slot_at slots_in place_of place_at slots_of slots_in_use token_word
    key_word spot_of function_word place_word key_in record_in token_of keys_of form_good tagged mixed tag_of word_read tag_in fits mark_meant
    token_number is_taken show hide taken_of meant taken meant_of hashes_of first_place second_place
    same_place places_in probes holds hit_in lookup taken_in free_slot fewer emptier room_in other_place items_of candidates move_of placing put_stores
    clear_stores move_stores placing_stores redo_stores update_stores state_stores step_stores written taken_slots tokens_tidy unused_empty places_of
    in_place orderly_tests same_key twins same_record target finding header_good list_long flag_clear changing_tests query_tests recover_tests begin_tests
    begin_of interim_slots interim_items interim_bucket items_from has_place step_item step_tests step_of end_tests end_of outcome change_result query_result
    create_tests created create_result make_tests make_result made_first made_all fresh_in usual_in after_e1_in before_e6 before_e8_in half_e9 before_e9 half_e11
    before_e11 ready marked
opened = true

-- the rules compute what document 01 writes
pub examples : (r : ℕ → Record) → map (λ (x : Row). x.computed) (marked 1 r) ≡ map (λ (x : Row). x.paper) (marked 1 r)
unfolding opened
examples r = refl

-- and verbatim in form 2: these keys are below 2^24, so that nothing is mixed and every tag is 0
pub examples_in_form2 : (r : ℕ → Record) → map (λ (x : Row). x.computed) (marked 2 r) ≡ map (λ (x : Row). x.paper) (marked 2 r)
unfolding opened
examples_in_form2 r = refl
