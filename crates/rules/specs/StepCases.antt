-- Cases of the growth step as one table under one statement, computed from the rules: of document 02's request b), and of the step that goes
-- on. Each row holds what the rules compute and what the request's sentences ask for. Tables and rows are those of `Examples`, made as a
-- caller makes them. Both multipliers are 4294967297, as in E11: a key K has one place in a level of M buckets, the bucket K modulo M.
-- Assumes nothing.
use Rattle.std.specs.Prelude.{ℕ, ◌≡◌, refl, replicate, set}
use mathlib.Core.List.{List, [], ◌∷◌, ◌++◌, map, flat_map}
use Rattle.words.specs.Product.{product_of, hash_of}
use Rattle.rules.specs.Forms.{form_good, tagged, mixed, tag_of}
use Rattle.rules.specs.Words.{word_read, tag_in, mark_meant}
use Rattle.rules.specs.Places.{fits}
use Rattle.rules.specs.Words.{Table, words_for, state_of, state_word, at_rest, shrinking, header_of, flag_of, state_good, odd, capacity_tests, header_tests}
use Rattle.rules.specs.Words.{top_of, bottom_of, interim_of, levels_in_use, buckets_of, slot_at, slots_in, place_at, slots_of, token_word, key_word, function_word}
use Rattle.rules.specs.Words.{place_word, key_in, record_in, token_of, token_number, is_taken, show, hide, taken_of, taken}
use Rattle.rules.specs.Places.{hashes_of, first_place, second_place, same_place, places_in, probes, places_of, holds, hit_in, lookup}
use Rattle.rules.specs.Placing.{taken_in, free_slot, fewer, emptier, room_in, other_place, items_of, candidates, move_of, placing}
use Rattle.rules.specs.Stores.{put_stores, clear_stores, move_stores, placing_stores, state_stores, step_stores, written}
use Rattle.rules.specs.Answers.{stepped_means, stepped_from_means}
use Rattle.rules.specs.Calls.{header_good, list_long, flag_clear, changing_tests, begin_tests, begin_of, interim_slots, interim_items, interim_bucket}
use Rattle.rules.specs.Calls.{items_from, has_place, step_item, step_tests, step_of, end_tests, end_of, Call, delete, begin, step_from, step, end, outcome}
use Rattle.rules.specs.Results.{change_result, step_from_result, step_result, create_tests, created, create_result, make_tests, make_result}
use Rattle.rules.specs.Histories.{whole, spent}
use Rattle.rules.specs.declared.Record.{Record}
use Rattle.rules.specs.Examples.{Shown, lists, refuses, tells, words, Row, row, sees, inserted, answered, made_first, made_all, fresh}
use Rattle.rules.specs.Examples.{fresh_in}

-- what a step tells beside its stores: its number, how many stores, and the slots of its placing
abbrev pub told : Table → Shown
told t = let a = stepped_means (step_result t (replicate 20 0)).0 in tells a.number a.values

abbrev pub told_from : Table → ℕ → Shown
told_from t b = let a = stepped_from_means (step_from_result t b (replicate 20 0)).0 in tells a.number a.values

-- ---- c = 2, and one interim bucket: keys 16 and 17 stand in its slots 0 and 1

-- before the growth: keys 0, 4, 8 and 12 fill the bucket of the top where 16 would go, and then come these keys
unfoldable pub filled : (ℕ → Record) → List ℕ → Table
filled r keys = inserted r (fresh 4294967297 4294967297) (0 ∷ 4 ∷ 8 ∷ 12 ∷ keys)

-- 16 is stuck: its bucket of the new top is full, too; 17 has room in the new top
unfoldable pub blocked : (ℕ → Record) → Table
blocked r = inserted r (made_all (filled r (1 ∷ 5 ∷ 9 ∷ 13 ∷ 16 ∷ 17 ∷ [])) begin) (32 ∷ 36 ∷ 40 ∷ 44 ∷ [])

-- 16 is stuck; 17's places are full, but an item of the bottom there can rise to the new top
unfoldable pub crowded : (ℕ → Record) → Table
crowded r = inserted r (made_all (filled r (3 ∷ 7 ∷ 11 ∷ 15 ∷ 16 ∷ 17 ∷ [])) begin) (32 ∷ 36 ∷ 40 ∷ 44 ∷ 21 ∷ 25 ∷ 29 ∷ 33 ∷ [])

-- 17 stands first, and needs that move; 16 has room in the new top
unfoldable pub turned : (ℕ → Record) → Table
turned r = inserted r (made_all (filled r (3 ∷ 7 ∷ 11 ∷ 15 ∷ 17 ∷ 16 ∷ [])) begin) (21 ∷ 25 ∷ 29 ∷ 33 ∷ [])

-- ---- c = 3, and two interim buckets: keys 16, 20, 24 and 28 fill the first, key 17 stands in the second

unfoldable pub wide : (ℕ → Record) → Table
wide r = made_all (inserted r (create_result (replicate 204 7) 1 3 2 4294967297 4294967297).1
    (0 ∷ 8 ∷ 32 ∷ 40 ∷ 16 ∷ 20 ∷ 24 ∷ 28 ∷ 1 ∷ 5 ∷ 9 ∷ 13 ∷ 17 ∷ [])) begin

-- 17 is stuck: the items of its bucket of the bottom have no other place than its bucket of the new top, which is full. Keys 16, 20, 24 and 28,
-- in the first interim bucket, have room in the new top
unfoldable pub late : (ℕ → Record) → Table
late r = inserted r (made_all (inserted r (create_result (replicate 204 7) 1 3 2 4294967297 4294967297).1
    (0 ∷ 8 ∷ 32 ∷ 40 ∷ 16 ∷ 20 ∷ 24 ∷ 28 ∷ 1 ∷ 9 ∷ 25 ∷ 33 ∷ 17 ∷ [])) begin) (41 ∷ 49 ∷ 57 ∷ 65 ∷ [])

-- ---- the table

-- the step that goes on. t has 20 as the first item with a place in its interim bucket 0, and 17 alone in its interim bucket 1, with a place
unfoldable pub goes_on : (ℕ → Record) → Table → List Row
goes_on r t =
    let gone = made_all t (step_from 1) in
    -- "with 0 it IS the step"
    row 20 (sees t (step_from 0)) (lists ((153, 20) ∷ (154, (r 20).function) ∷ (155, (r 20).place) ∷ (152, 1) ∷ (22, 13) ∷ []))
    -- "It takes the first item from there on that has a place, answers its stores, its placing and the bucket .. in which the item stood"
    ∷ row 21 (told_from t 0) (tells 0 (5 ∷ 0 ∷ 0 ∷ 11 ∷ 0 ∷ []))
    ∷ row 22 (sees t (step_from 1)) (lists ((114, 17) ∷ (115, (r 17).function) ∷ (116, (r 17).place) ∷ (113, 1) ∷ (35, 0) ∷ []))
    ∷ row 23 (told_from t 1) (tells 0 (5 ∷ 1 ∷ 0 ∷ 8 ∷ 0 ∷ []))
    -- "A start past the level is 11."; "the bucket told with a refusal is 0"
    ∷ row 24 (told_from t 2) (tells 11 (0 ∷ 0 ∷ []))
    ∷ row 25 (told_from t 18446744073709551615) (tells 11 (0 ∷ 0 ∷ []))
    -- "11 when no item stands from there on": items stand before it
    ∷ row 26 (told_from gone 1) (tells 11 (0 ∷ 0 ∷ []))
    ∷ row 27 (told_from gone 0) (tells 0 (5 ∷ 0 ∷ 0 ∷ 11 ∷ 0 ∷ []))
    -- 3 comes first; and at rest it is 8, whatever the start
    ∷ row 28 (told_from (set gone 5 1) 1) (tells 3 (0 ∷ 0 ∷ []))
    ∷ row 29 (told_from (set gone 4 3) 2) (tells 8 (0 ∷ 0 ∷ []))
    -- "It counts among growth's own calls": five stores of each step, and none of a delete
    ∷ row 32 (words (spent t (map (λ (q : Call). whole q (replicate 20 0)) (step_from 1 ∷ step ∷ delete 0 ∷ [])) ∷ [])) (words (10 ∷ []))
    ∷ []

-- t is `late r`
unfoldable pub stuck_late : Table → List Row
stuck_late t =
    -- "6 when some do and none has a place", though one before them has
    row 30 (told_from t 1) (tells 6 (0 ∷ 0 ∷ []))
    ∷ row 31 (told_from t 0) (tells 0 (5 ∷ 0 ∷ 0 ∷ 7 ∷ 0 ∷ []))
    ∷ []

-- t is `blocked r`
unfoldable pub one_bucket : (ℕ → Record) → Table → List Row
one_bucket r t =
    let moved = made_all t step in
    let freed = made_all moved (delete 32) in
    let settled = made_all freed step in
    -- "The step must take the first interim item, in the same order, that has a place": behind a stuck one, by a free slot
    row 1 (sees t step) (lists ((62, 17) ∷ (63, (r 17).function) ∷ (64, (r 17).place) ∷ (61, 1) ∷ (9, 1) ∷ []))
    ∷ row 2 (told t) (tells 0 (5 ∷ 0 ∷ 4 ∷ 0 ∷ []))
    -- by a move: "The ten-store .. bounds stay"
    ∷ row 3 (sees (crowded r) step) (lists ((88, 3) ∷ (89, (r 3).function) ∷ (90, (r 3).place) ∷ (87, 1) ∷ (35, 14) ∷ (36, 17)
    ∷ (37, (r 17).function) ∷ (38, (r 17).place) ∷ (35, 15) ∷ (9, 1) ∷ []))
    -- the first that has a place, be it by a move, and not the first that has a free slot
    ∷ row 4 (sees (turned r) step) (lists ((88, 3) ∷ (89, (r 3).function) ∷ (90, (r 3).place) ∷ (87, 1) ∷ (35, 14) ∷ (36, 17)
    ∷ (37, (r 17).function) ∷ (38, (r 17).place) ∷ (35, 15) ∷ (9, 2) ∷ []))
    -- of two that have a place the first, once a delete has made room for it
    ∷ row 5 (sees (made_all t (delete 32)) step) (lists ((49, 16) ∷ (50, (r 16).function) ∷ (51, (r 16).place) ∷ (48, 15) ∷ (9, 2) ∷ []))
    -- "Refusal 6 is then given exactly when interim items remain and none has one"
    ∷ row 6 (sees moved step) (refuses 6)
    ∷ row 7 (told moved) (tells 6 (0 ∷ []))
    -- the growth goes to its end once a delete has made room: the stuck item moves, and "11 keeps its meaning"
    ∷ row 8 (sees freed step) (lists ((49, 16) ∷ (50, (r 16).function) ∷ (51, (r 16).place) ∷ (48, 15) ∷ (9, 0) ∷ []))
    ∷ row 9 (sees settled step) (refuses 11)
    ∷ row 10 (sees settled end) (lists ((4, 2) ∷ []))
    -- at rest 8, though the interim level is empty; and 3 comes before 6
    ∷ row 11 (sees (made_all settled end) step) (refuses 8)
    ∷ row 12 (sees (set moved 5 1) step) (refuses 3)
    ∷ []

-- t is `wide r`
unfoldable pub two_buckets : (ℕ → Record) → Table → List Row
two_buckets r t =
    let half = inserted r t (48 ∷ 56 ∷ 64 ∷ 72 ∷ []) in
    let full = inserted r half (36 ∷ 44 ∷ 52 ∷ 60 ∷ []) in
    -- slot after slot of one bucket: 16 and 24 are stuck, in slots 0 and 2
    row 13 (sees half step) (lists ((153, 20) ∷ (154, (r 20).function) ∷ (155, (r 20).place) ∷ (152, 1) ∷ (22, 13) ∷ []))
    ∷ row 14 (sees (made_all half step) step) (lists ((156, 28) ∷ (157, (r 28).function) ∷ (158, (r 28).place) ∷ (152, 3) ∷ (22, 5) ∷ []))
    -- bucket after bucket: the whole first bucket is stuck
    ∷ row 15 (sees full step) (lists ((114, 17) ∷ (115, (r 17).function) ∷ (116, (r 17).place) ∷ (113, 1) ∷ (35, 0) ∷ []))
    ∷ row 16 (sees (made_all full step) step) (refuses 6)
    ∷ row 17 (words (answered r t (48 ∷ 56 ∷ 64 ∷ 72 ∷ 36 ∷ 44 ∷ 52 ∷ 60 ∷ []))) (words (replicate 8 0))
    ∷ goes_on r half

-- what `blocked` takes as done was answered with 0
unfoldable pub ready : (ℕ → Record) → List Row
ready r =
    row 18 (words (answered r (fresh 4294967297 4294967297) (0 ∷ 4 ∷ 8 ∷ 12 ∷ 1 ∷ 5 ∷ 9 ∷ 13 ∷ 16 ∷ 17 ∷ []))) (words (replicate 10 0))
    ∷ row 19 (words (answered r (made_all (filled r (1 ∷ 5 ∷ 9 ∷ 13 ∷ 16 ∷ 17 ∷ [])) begin) (32 ∷ 36 ∷ 40 ∷ 44 ∷ [])))
    (words (replicate 4 0))
    ∷ []

unfoldable pub cases : (ℕ → Record) → List Row
cases r = one_bucket r (blocked r) ++ (two_buckets r (wide r) ++ (stuck_late (late r) ++ ready r))

-- the rules compute what the requests ask for
pub step_cases : (r : ℕ → Record) → map (λ (x : Row). x.computed) (cases r) ≡ map (λ (x : Row). x.paper) (cases r)
unfolding product_of hash_of flat_map words_for state_of state_word at_rest shrinking header_of flag_of state_good odd capacity_tests header_tests top_of bottom_of interim_of
    levels_in_use buckets_of slot_at slots_in place_at slots_of token_word key_word function_word place_word key_in record_in token_of form_good tagged mixed tag_of
    word_read tag_in fits mark_meant
    token_number is_taken show hide
    taken_of taken hashes_of first_place second_place same_place places_in probes places_of holds hit_in lookup taken_in free_slot fewer emptier room_in
    other_place items_of candidates move_of placing put_stores clear_stores move_stores placing_stores state_stores step_stores written stepped_means
    stepped_from_means header_good list_long flag_clear changing_tests begin_tests begin_of interim_slots interim_items interim_bucket items_from has_place
    step_item step_tests step_of end_tests end_of outcome change_result step_from_result step_result create_tests created create_result make_tests make_result
    made_first made_all fresh_in filled blocked late crowded turned wide one_bucket two_buckets goes_on stuck_late ready cases
step_cases r = refl
