-- Document 02, request e): cases of a query as one table under one statement, computed from the rules. Each row holds what the rules compute and
-- what the request's sentences ask for: the number, then function, place, count, word and level. Tables and rows are those of `Examples`:
-- c = 2, k = 1, made as a caller makes them. There hash 1 is the key and hash 2 three times the key; the top is buckets 1 and 2, whose token
-- words are 22 and 35, the bottom is bucket 0, with token word 9. Once begun the top is buckets 3 to 6, the bottom 1 and 2, the interim level 0.
-- Assumes nothing.
use Rattle.std.specs.Prelude.{ℕ, ◌+◌, ◌≡◌, refl, set}
use mathlib.Core.List.{List, [], ◌∷◌, map, flat_map}
use Rattle.words.specs.Product.{product_of, hash_of}
use Rattle.rules.specs.Forms.{form_good, tagged, mixed, tag_of}
use Rattle.rules.specs.Words.{word_read, tag_in, mark_meant}
use Rattle.rules.specs.Places.{fits}
use Rattle.rules.specs.Words.{Table, words_for, state_of, state_word, at_rest, shrinking, header_of, flag_of, state_good, odd, capacity_tests, header_tests}
use Rattle.rules.specs.Words.{top_of, bottom_of, interim_of, levels_in_use, buckets_of, slot_at, slots_in, place_of, place_at, slots_of, token_word, key_word}
use Rattle.rules.specs.Words.{function_word, place_word, spot_of, key_in, record_in, token_of, token_number, is_taken, show, hide, taken_of, taken}
use Rattle.rules.specs.Places.{hashes_of, first_place, second_place, same_place, places_in, probes, places_of, holds, hit_in, lookup}
use Rattle.rules.specs.Placing.{taken_in, free_slot, fewer, emptier, room_in, placing}
use Rattle.rules.specs.Stores.{put_stores, clear_stores, placing_stores, update_stores, state_stores, step_stores, written}
use Rattle.rules.specs.Calls.{header_good, list_long, flag_clear, changing_tests, query_tests, begin_tests, begin_of, interim_slots, interim_items}
use Rattle.rules.specs.Calls.{interim_bucket, items_from, has_place, step_item, step_tests, step_of, insert, update, delete, begin, step, outcome}
use Rattle.rules.specs.Results.{change_result, query_result, create_tests, created, create_result, make_tests, make_result}
use Rattle.rules.specs.declared.Record.{Record}
use Rattle.rules.specs.Examples.{Row, row, tells, asks, made_first, made_all, record_of, usual, after_e1, before_e8}
use Rattle.rules.specs.Examples.{fresh_in, usual_in, after_e1_in, before_e8_in}

-- keys 1, 3, 5, 7 stand in bucket 2, and 9, 11, 13, 15 in bucket 0; the same while it grows; after a step, which moves key 9 to bucket 4; and
-- with key 17 in bucket 6, its second place, as bucket 4 has an item more
unfoldable pub growing : (ℕ → Record) → Table
growing r = made_all (before_e8 r) begin

unfoldable pub stepped : (ℕ → Record) → Table
stepped r = made_all (growing r) step

unfoldable pub filled : (ℕ → Record) → Table
filled r = made_all (stepped r) (insert 17 (r 17))

-- key 1 with the record 7, 8 put by hand to slot 0 of the bucket with that token word, which becomes w
abbrev pub put_by : Table → ℕ → ℕ → Table
put_by t token w = set (set (set (set t token w) (1 + token) 1) (2 + token) 7) (3 + token) 8

-- key 1 in slots 1 and 3 of bucket 2, with two functions, whatever its token word w says of them; slot 0 has another key
unfoldable pub twice : ℕ → Table
twice w = set (set (set (set (set (set usual 35 w) 36 7) 39 1) 40 5) 45 1) 46 6

unfoldable pub cases : (ℕ → Record) → List Row
cases r =
    -- "the word index of the key found": of each slot of a bucket, "Slot s starts at offset 1 + 3s"
    row 1 (asks after_e1 1) (tells 0 (10 ∷ 20 ∷ 1 ∷ 36 ∷ 0 ∷ []))
    ∷ row 2 (asks (before_e8 r) 3) (tells 0 ((r 3).function ∷ (r 3).place ∷ 1 ∷ 39 ∷ 0 ∷ []))
    ∷ row 3 (asks (before_e8 r) 5) (tells 0 ((r 5).function ∷ (r 5).place ∷ 1 ∷ 42 ∷ 0 ∷ []))
    ∷ row 4 (asks (before_e8 r) 7) (tells 0 ((r 7).function ∷ (r 7).place ∷ 1 ∷ 45 ∷ 0 ∷ []))
    -- "and whether it was top, bottom or interim": the bottom at rest, the same buckets by their new names, the top after a step
    ∷ row 5 (asks (before_e8 r) 9) (tells 0 ((r 9).function ∷ (r 9).place ∷ 2 ∷ 10 ∷ 1 ∷ []))
    ∷ row 6 (asks (growing r) 1) (tells 0 ((r 1).function ∷ (r 1).place ∷ 3 ∷ 36 ∷ 1 ∷ []))
    ∷ row 7 (asks (growing r) 9) (tells 0 ((r 9).function ∷ (r 9).place ∷ 4 ∷ 10 ∷ 2 ∷ []))
    ∷ row 8 (asks (growing r) 15) (tells 0 ((r 15).function ∷ (r 15).place ∷ 4 ∷ 19 ∷ 2 ∷ []))
    ∷ row 9 (asks (stepped r) 9) (tells 0 ((r 9).function ∷ (r 9).place ∷ 1 ∷ 62 ∷ 0 ∷ []))
    -- the second place
    ∷ row 10 (asks (filled r) 17) (tells 0 ((r 17).function ∷ (r 17).place ∷ 2 ∷ 88 ∷ 0 ∷ []))
    -- an update puts the item to another slot, and a delete takes it away, whose words stay
    ∷ row 11 (asks (made_all after_e1 (update 1 (record_of 30 40))) 1) (tells 0 (30 ∷ 40 ∷ 1 ∷ 39 ∷ 0 ∷ []))
    ∷ row 12 (asks (made_all after_e1 (delete 1)) 1) (tells 5 (0 ∷ 0 ∷ 2 ∷ 0 ∷ 0 ∷ []))
    -- the first such slot in probe order: key 1 in the bottom as well, and then there alone; in bucket 1, which is no place of it
    ∷ row 13 (asks (put_by after_e1 9 1) 1) (tells 0 (10 ∷ 20 ∷ 1 ∷ 36 ∷ 0 ∷ []))
    ∷ row 14 (asks (set (put_by after_e1 9 1) 35 0) 1) (tells 0 (7 ∷ 8 ∷ 2 ∷ 10 ∷ 1 ∷ []))
    ∷ row 15 (asks (put_by usual 22 1) 1) (tells 5 (0 ∷ 0 ∷ 2 ∷ 0 ∷ 0 ∷ []))
    -- twice in one bucket, in slots 1 and 3; and in slot 3 alone, beside a free slot 1 with that key
    ∷ row 16 (asks (twice 10) 1) (tells 0 (5 ∷ 0 ∷ 1 ∷ 39 ∷ 0 ∷ []))
    ∷ row 17 (asks (twice 8) 1) (tells 0 (6 ∷ 0 ∷ 1 ∷ 45 ∷ 0 ∷ []))
    -- "Calls read token words modulo 16"
    ∷ row 18 (asks (put_by usual 35 4097) 1) (tells 0 (7 ∷ 8 ∷ 1 ∷ 36 ∷ 0 ∷ []))
    -- "with any refusal, index 0 and top": 5, 3 and 1
    ∷ row 19 (asks (growing r) 17) (tells 5 (0 ∷ 0 ∷ 4 ∷ 0 ∷ 0 ∷ []))
    ∷ row 20 (asks (set (growing r) 5 1) 9) (tells 3 (0 ∷ 0 ∷ 0 ∷ 0 ∷ 0 ∷ []))
    ∷ row 21 (asks (set (growing r) 0 3) 9) (tells 1 (0 ∷ 0 ∷ 0 ∷ 0 ∷ 0 ∷ []))
    ∷ []

-- the rules compute what request e) asks for
pub spot_cases : (r : ℕ → Record) → map (λ (x : Row). x.computed) (cases r) ≡ map (λ (x : Row). x.paper) (cases r)
unfolding product_of hash_of flat_map words_for state_of state_word at_rest shrinking header_of flag_of state_good odd capacity_tests header_tests top_of bottom_of interim_of
    levels_in_use buckets_of slot_at slots_in place_of place_at slots_of token_word key_word function_word place_word spot_of key_in record_in token_of form_good
    tagged mixed tag_of word_read tag_in fits mark_meant
    token_number
    is_taken show hide taken_of taken hashes_of first_place second_place same_place places_in probes places_of holds hit_in lookup taken_in free_slot fewer emptier
    room_in placing put_stores clear_stores placing_stores update_stores state_stores step_stores written header_good list_long flag_clear changing_tests query_tests
    begin_tests begin_of interim_slots interim_items interim_bucket items_from has_place step_item step_tests step_of outcome change_result query_result create_tests
    created create_result make_tests make_result made_first made_all fresh_in usual_in after_e1_in before_e8_in growing stepped filled twice cases
spot_cases r = refl
