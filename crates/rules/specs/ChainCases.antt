-- Document 02, request a): cases of the chain as one table under one statement, computed from the rules. Each row holds what the rules
-- compute and what the request's sentences ask for: the number, the count, then the lent words at exit. Tables and rows are those of
-- `Examples`: c = 2, k = 1, made as a caller makes them. There key K is address K / 256 at depth K modulo 256.
-- Assumes nothing.
use Rattle.std.specs.Prelude.{ℕ, ◌-◌, ◌^◌, ◌≡◌, refl, replicate, set}
use mathlib.Core.List.{List, [], ◌∷◌, ◌++◌, map, flat_map}
use Rattle.words.specs.Product.{product_of, hash_of}
use Rattle.rules.specs.Forms.{form_good, tagged, mixed, tag_of}
use Rattle.rules.specs.Words.{word_read, tag_in, mark_meant}
use Rattle.rules.specs.Places.{fits}
use Rattle.rules.specs.Words.{Table, words_for, state_of, state_word, at_rest, shrinking, header_of, flag_of, state_good, odd, capacity_tests, header_tests}
use Rattle.rules.specs.Words.{top_of, bottom_of, interim_of, levels_in_use, slot_at, slots_in, place_at, token_word, key_word, function_word, place_word, key_in}
use Rattle.rules.specs.Words.{record_in, token_of, token_number, is_taken, show, hide, taken_of, taken}
use Rattle.rules.specs.Places.{hashes_of, first_place, second_place, same_place, places_in, probes, places_of, holds, hit_in, lookup}
use Rattle.rules.specs.Placing.{taken_in, free_slot, fewer, emptier, room_in, placing}
use Rattle.rules.specs.Stores.{put_stores, clear_stores, placing_stores, state_stores, written}
use Rattle.rules.specs.Answers.{chain_means}
use Rattle.rules.specs.Calls.{header_good, list_long, flag_clear, changing_tests, query_tests, begin_tests, begin_of, delete, begin, outcome}
use Rattle.rules.specs.Results.{change_result, create_tests, created, create_result, make_tests, make_result}
use Rattle.rules.specs.Chains.{key_of, position_good, records_long, position_tests, chain_tests, walk, query_of, chain_result}
use Rattle.rules.specs.declared.Record.{Record}
use Rattle.rules.specs.Examples.{Shown, tells, Row, row, inserted, made_first, made_all, usual}
use Rattle.rules.specs.Examples.{fresh_in, usual_in}

-- depths 0, 1 and 2 of address 0; and of address 1 depths 0 and 2, without 1
unfoldable pub chained : (ℕ → Record) → Table
chained r = inserted r usual (0 ∷ 1 ∷ 2 ∷ 256 ∷ 258 ∷ [])

-- the same while it grows; and then without key 0
unfoldable pub growing : (ℕ → Record) → Table
growing r = made_all (chained r) begin

unfoldable pub cropped : (ℕ → Record) → Table
cropped r = made_all (growing r) (delete 0)

-- what a caller of the chain sees
abbrev pub shows : Table → ℕ → ℕ → List ℕ → Shown
shows t address depth l =
    let a = chain_result t address depth l in
    tells (chain_means a.0).number ((chain_means a.0).values ++ a.1)

unfoldable pub cases : (ℕ → Record) → List Row
cases r =
    -- "return the records of depth d, then each smaller depth down to 0"; "the sum of the queries' probe counts"
    row 1 (shows (chained r) 0 0 (replicate 2 7)) (tells 0 (1 ∷ (r 0).function ∷ (r 0).place ∷ []))
    ∷ row 2 (shows (chained r) 0 2 (replicate 6 7)) (tells 0 (3 ∷ (r 2).function ∷ (r 2).place ∷ (r 1).function ∷ (r 1).place ∷ (r 0).function ∷ (r 0).place ∷ []))
    ∷ row 3 (shows (growing r) 0 2 (replicate 6 7)) (tells 0 (7 ∷ (r 2).function ∷ (r 2).place ∷ (r 1).function ∷ (r 1).place ∷ (r 0).function ∷ (r 0).place ∷ []))
    ∷ row 4 (shows (chained r) 1 0 (replicate 2 7)) (tells 0 (1 ∷ (r 256).function ∷ (r 256).place ∷ []))
    -- "success writes just those words"
    ∷ row 5 (shows (chained r) 0 1 (replicate 7 7)) (tells 0 (2 ∷ (r 1).function ∷ (r 1).place ∷ (r 0).function ∷ (r 0).place ∷ 7 ∷ 7 ∷ 7 ∷ []))
    -- "The first missing depth gives 5 and nothing is written"; "the missing one included": the first depth asked, one between, the last
    ∷ row 6 (shows (chained r) 0 3 (replicate 8 7)) (tells 5 (2 ∷ replicate 8 7))
    ∷ row 7 (shows (chained r) 1 2 (replicate 6 7)) (tells 5 (3 ∷ replicate 6 7))
    ∷ row 8 (shows (cropped r) 0 2 (replicate 6 7)) (tells 5 (8 ∷ replicate 6 7))
    -- "fewer than 2(d + 1) words give a new refusal 15", "0 with other refusals"
    ∷ row 9 (shows (chained r) 0 2 (replicate 5 7)) (tells 15 (0 ∷ replicate 5 7))
    ∷ row 10 (shows (chained r) 0 0 []) (tells 15 (0 ∷ []))
    -- before 5, and at the largest depth
    ∷ row 11 (shows (chained r) 0 255 (replicate 511 7)) (tells 15 (0 ∷ replicate 511 7))
    ∷ row 12 (shows (chained r) 0 255 (replicate 512 7)) (tells 5 (2 ∷ replicate 512 7))
    -- "an address of 2^56 or more, or a depth above 255, gives 16"
    ∷ row 13 (shows (chained r) (2 ^ 56) 0 (7 ∷ 7 ∷ [])) (tells 16 (0 ∷ 7 ∷ 7 ∷ []))
    ∷ row 14 (shows (chained r) (2 ^ 56 - 1) 0 (7 ∷ 7 ∷ [])) (tells 5 (2 ∷ 7 ∷ 7 ∷ []))
    ∷ row 15 (shows (chained r) 0 256 (replicate 514 7)) (tells 16 (0 ∷ replicate 514 7))
    -- "16 before 15", and both "after 1 and 3"
    ∷ row 16 (shows (chained r) (2 ^ 56) 256 []) (tells 16 (0 ∷ []))
    ∷ row 17 (shows (set (chained r) 5 1) (2 ^ 56) 256 []) (tells 3 (0 ∷ []))
    ∷ row 18 (shows (set (set (chained r) 5 1) 0 3) (2 ^ 56) 256 []) (tells 1 (0 ∷ []))
    ∷ []

-- the rules compute what request a) asks for
pub chain_cases : (r : ℕ → Record) → map (λ (x : Row). x.computed) (cases r) ≡ map (λ (x : Row). x.paper) (cases r)
unfolding product_of hash_of flat_map words_for state_of state_word at_rest shrinking header_of flag_of state_good odd capacity_tests header_tests top_of bottom_of interim_of
    levels_in_use slot_at slots_in place_at token_word key_word function_word place_word key_in record_in token_of form_good tagged mixed tag_of word_read tag_in fits mark_meant
    token_number is_taken show hide taken_of taken
    hashes_of first_place second_place same_place places_in probes holds hit_in lookup taken_in free_slot fewer emptier room_in placing put_stores clear_stores
    placing_stores state_stores written places_of header_good list_long flag_clear changing_tests query_tests begin_tests begin_of outcome change_result create_tests
    created create_result make_tests make_result made_first made_all fresh_in usual_in key_of position_good records_long position_tests chain_tests walk query_of chain_result
    chained growing cropped cases
chain_cases r = refl
