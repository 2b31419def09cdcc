-- Document 02, request f): cases of shrinking and turning back as one table under one statement, computed from the rules. Each row holds what the
-- rules compute and what the request's sentences ask for. Tables and rows are those of `Examples`, made as a caller makes them. Both multipliers
-- are 4294967297, but for rows 39, 40, 43 and 51 to 53: a key K has one place in a level of M buckets, the bucket K modulo M. Bucket 0 is the level
-- of one bucket, with token word 9; buckets 1 and 2 are that of two, with token words 22 and 35; buckets 3 to 6 that of four: 48, 61, 74 and 87.
-- Assumes nothing.
use Rattle.std.specs.Prelude.{ℕ, zero, suc, ◌≡◌, refl, Bool, true, replicate, set}
use mathlib.Core.List.{List, [], ◌∷◌, ◌++◌, map, flat_map}
use Rattle.words.specs.Product.{product_of, hash_of}
use Rattle.rules.specs.Forms.{form_good, tagged, mixed, tag_of}
use Rattle.rules.specs.Words.{word_read, tag_in, mark_meant}
use Rattle.rules.specs.Places.{fits}
use Rattle.rules.specs.Words.{Table, words_for, state_of, state_word, at_rest, shrinking, header_of, flag_of, target_of, logged_of, state_good, odd}
use Rattle.rules.specs.Words.{capacity_tests, header_tests, top_of, bottom_of, interim_of, levels_in_use, buckets_of, all_buckets, exponent_in_use}
use Rattle.rules.specs.Words.{unused_buckets, slot_at, slots_in, place_of, place_at, slots_of, slots_in_use, token_word, key_word, spot_of, function_word}
use Rattle.rules.specs.Words.{place_word, key_in, record_in, token_of, token_number, is_taken, show, hide, taken_of, meant, taken, meant_of}
use Rattle.rules.specs.Places.{hashes_of, first_place, second_place, same_place, places_in, probes, places_of, holds, hit_in, lookup}
use Rattle.rules.specs.Placing.{taken_in, free_slot, fewer, emptier, room_in, other_place, items_of, candidates, move_of, placing}
use Rattle.rules.specs.Stores.{put_stores, clear_stores, move_stores, placing_stores, redo_stores, update_stores, turned_of, state_stores, step_stores, written}
use Rattle.rules.specs.Soundness.{taken_slots, tokens_tidy, unused_empty, in_place, orderly_tests, same_key, twins, same_record, target, finding}
use Rattle.rules.specs.Answers.{change_means, stepped_from_means}
use Rattle.rules.specs.Calls.{header_good, list_long, flag_clear, changing_tests, query_tests, recover_tests, begin_tests, begin_of, shrink_tests, shrink_of}
use Rattle.rules.specs.Calls.{back_tests, back_of, interim_slots, interim_items, interim_bucket, items_from, has_place, step_item, step_tests, step_of}
use Rattle.rules.specs.Calls.{end_tests, end_of, Call, insert, update, delete, begin, shrink, back, step, end, recover, outcome}
use Rattle.rules.specs.Results.{change_result, query_result, step_from_result, create_tests, created, create_result, make_tests, make_result}
use Rattle.rules.specs.Histories.{Event, whole, after, after_all, spent, Accepted}
use Rattle.rules.specs.declared.Record.{Record}
use Rattle.rules.specs.Examples.{Shown, lists, refuses, tells, words, Row, row, sees, asks, inserted, answered, made_first, made_all, record_of}
use Rattle.rules.specs.StepCases.{told_from}

abbrev pub sees_short : Table → Call → Shown
sees_short t q = let a = change_means (change_result t (replicate 19 0) q).0 in tells a.number a.values

abbrev pub after_steps : ℕ → Table → Table
after_steps zero t = t
after_steps (suc n) t = after_steps n (made_all t step)

-- ---- the tables

-- empty, at rest, c = k = 2
abbrev pub new : Table
new = (create_result (replicate 100 7) 1 2 2 4294967297 4294967297).1

-- with three items: keys 0 and 4 stand in bucket 3, key 1 in bucket 4
abbrev pub three : List ℕ
three = 0 ∷ 4 ∷ 1 ∷ []

unfoldable pub resting : (ℕ → Record) → Table
resting r = inserted r new three

-- keys 0, 4, 8 and 12 fill bucket 3, keys 16, 20, 24 and 28 bucket 1, and key 2 stands in bucket 5; shrunk, and four steps later bucket 0 is full
abbrev pub nine : List ℕ
nine = 0 ∷ 4 ∷ 8 ∷ 12 ∷ 16 ∷ 20 ∷ 24 ∷ 28 ∷ 2 ∷ []

unfoldable pub crowded : (ℕ → Record) → Table
crowded r = inserted r new nine

-- sixteen items fill the four buckets of the top
abbrev pub sixteen : List ℕ
sixteen = 0 ∷ 4 ∷ 8 ∷ 12 ∷ 1 ∷ 5 ∷ 9 ∷ 13 ∷ 2 ∷ 6 ∷ 10 ∷ 14 ∷ 3 ∷ 7 ∷ 11 ∷ 15 ∷ []

unfoldable pub filled : (ℕ → Record) → Table
filled r = inserted r new sixteen

-- ---- the table of rows

-- insert, update and delete in phase 2; u is `resting r`, shrunk
unfoldable pub changes : (ℕ → Record) → Table → List Row
changes r u =
    row 13 (sees u (insert 6 (r 6))) (lists ((23, 6) ∷ (24, (r 6).function) ∷ (25, (r 6).place) ∷ (22, 1) ∷ []))
    ∷ row 14 (sees u (insert 4 (r 4))) (refuses 4)
    ∷ row 15 (sees u (update 4 (record_of 30 40))) (lists ((55, 4) ∷ (56, 30) ∷ (57, 40) ∷ (48, 5) ∷ []))
    ∷ row 16 (sees u (delete 4)) (lists ((48, 1) ∷ []))
    ∷ []

-- t is `resting r`, u the same shrunk
unfoldable pub shrinks : (ℕ → Record) → Table → Table → List Row
shrinks r t u =
    let known = made_all (resting (λ (key : ℕ). record_of 10 20)) shrink in
    -- "the state goes from rest with k to phase 2 with k − 1, in one store"
    row 1 (sees t shrink) (lists ((4, 513) ∷ []))
    -- "The old top becomes the interim level": found there, after the places in top and bottom
    ∷ row 2 (asks u 4) (tells 0 ((r 4).function ∷ (r 4).place ∷ 3 ∷ 52 ∷ 2 ∷ []))
    ∷ row 3 (asks u 5) (tells 5 (0 ∷ 0 ∷ 3 ∷ 0 ∷ 0 ∷ []))
    -- a cut of it
    ∷ row 4 (sees (made_first t shrink 0) recover) (lists [])
    ∷ row 5 (sees (made_first t shrink 1) recover) (lists [])
    -- "Steps and end are those of growth": the first item of the old top goes to the new top, "the old bottom"
    ∷ row 6 (sees u step) (lists ((23, 0) ∷ (24, (r 0).function) ∷ (25, (r 0).place) ∷ (22, 1) ∷ (48, 2) ∷ []))
    ∷ row 7 (told_from u 0) (tells 0 (5 ∷ 0 ∷ 0 ∷ 1 ∷ 0 ∷ []))
    ∷ row 8 (told_from u 1) (tells 0 (5 ∷ 1 ∷ 0 ∷ 2 ∷ 0 ∷ []))
    ∷ row 9 (told_from u 2) (tells 11 (0 ∷ 0 ∷ []))
    -- a cut of a step: the copy in the interim level is the later one, though that level is the largest
    ∷ row 10 (sees (made_first u step 3) recover) (lists [])
    ∷ row 11 (sees (made_first known step 4) recover) (lists ((48, 2) ∷ []))
    ∷ row 12 (asks (made_all (made_first known step 4) recover) 0) (tells 0 (10 ∷ 20 ∷ 1 ∷ 23 ∷ 0 ∷ []))
    ∷ changes r u

-- what refuses; u, v and w as below
unfoldable pub refusing : Table → Table → Table → List Row
refusing u v w =
    -- "It needs k at least 2, else new refusal 17"; "At rest it, step and end give 8."
    row 28 (sees (made_all w end) shrink) (refuses 17)
    ∷ row 29 (sees (made_all w end) back) (refuses 8)
    ∷ row 30 (sees (made_all w end) step) (refuses 8)
    ∷ row 31 (sees (made_all w end) end) (refuses 8)
    -- "a table in phase 1 or 2 refuses both begins with 7, tested first": before 17, as k is 1, and before 9, as k is c
    ∷ row 32 (sees u shrink) (refuses 7)
    ∷ row 33 (sees u begin) (refuses 7)
    ∷ row 34 (sees v shrink) (refuses 7)
    ∷ row 35 (sees v begin) (refuses 7)
    -- "States with phase 2 need 1 ≤ k < c."
    ∷ row 36 (sees (set u 4 512) back) (refuses 1)
    ∷ row 36 (sees (set u 4 514) back) (refuses 1)
    ∷ row 36 (sees (set u 4 769) back) (refuses 1)
    -- 1, 2 and 3 come first
    ∷ row 37 (sees_short u shrink) (tells 2 (0 ∷ []))
    ∷ row 37 (sees_short u back) (tells 2 (0 ∷ []))
    ∷ row 38 (sees (set u 5 1) shrink) (refuses 3)
    ∷ row 38 (sees (set u 5 1) back) (refuses 3)
    ∷ []

-- u shrinks, v is u turned back, and w is u with all three items moved
unfoldable pub turns : (ℕ → Record) → Table → Table → Table → List Row
turns r u v w =
    -- "A shrinking table becomes a growing one with k + 1, and a growing one a shrinking one with k − 1, by one state store."
    row 17 (sees u back) (lists ((4, 258) ∷ []))
    ∷ row 18 (sees v back) (lists ((4, 513) ∷ []))
    ∷ row 19 (asks v 4) (tells 0 ((r 4).function ∷ (r 4).place ∷ 1 ∷ 52 ∷ 0 ∷ []))
    -- cuts of both
    ∷ row 20 (sees (made_first u back 0) recover) (lists [])
    ∷ row 21 (sees (made_first u back 1) recover) (lists [])
    ∷ row 22 (sees (made_first v back 0) recover) (lists [])
    ∷ row 23 (sees (made_first v back 1) recover) (lists [])
    -- end: with items and without
    ∷ row 24 (sees u end) (refuses 10)
    ∷ row 25 (sees w step) (refuses 11)
    ∷ row 26 (sees w end) (lists ((4, 1) ∷ []))
    ∷ row 27 (asks (made_all w end) 4) (tells 0 ((r 4).function ∷ (r 4).place ∷ 1 ∷ 26 ∷ 0 ∷ []))
    ∷ refusing u v w

-- t and u are empty and at rest, with c = 3. t has k = 3, and two places for key 1 in a level of two buckets or more: the first is bucket 4 in the
-- level of four, and bucket 8, with token word 113, in that of eight. u has k = 2, and one place for each key
unfoldable pub looks : (ℕ → Record) → Table → Table → List Row
looks r t u =
    let stood = made_all (made_all t (insert 1 (r 1))) shrink in
    -- "six buckets in either phase", four at rest
    row 39 (asks t 1) (tells 5 (0 ∷ 0 ∷ 4 ∷ 0 ∷ 0 ∷ []))
    ∷ row 40 (asks (made_all t shrink) 1) (tells 5 (0 ∷ 0 ∷ 6 ∷ 0 ∷ 0 ∷ []))
    -- "Soundness and recovery must be restated over the new phase": of the levels of one, two, four and eight buckets the first three are in use
    ∷ row 41 (sees (made_all u shrink) recover) (lists [])
    ∷ row 42 (sees (set (made_all u shrink) 100 1) recover) (refuses 12)
    -- the first of these levels is not in use with k = 2
    ∷ row 43 (sees (set (made_all t shrink) 9 1) recover) (refuses 12)
    -- "first place, then second if different", and "(tie: first place)": the old top is looked at fifth, and what goes to the new top goes there first
    ∷ row 51 (asks stood 1) (tells 0 ((r 1).function ∷ (r 1).place ∷ 5 ∷ 114 ∷ 2 ∷ []))
    ∷ row 52 (sees stood step) (lists ((62, 1) ∷ (63, (r 1).function) ∷ (64, (r 1).place) ∷ (61, 1) ∷ (113, 0) ∷ []))
    ∷ row 53 (sees (made_all t shrink) (insert 1 (r 1))) (lists ((62, 1) ∷ (63, (r 1).function) ∷ (64, (r 1).place) ∷ (61, 1) ∷ []))
    ∷ []

-- t is `crowded r`, shrunk and four steps on
unfoldable pub leaves : (ℕ → Record) → Table → List Row
leaves r t =
    -- key 2 has no place: the shrink is stuck, and turning back leaves it
    row 44 (sees t step) (refuses 6)
    ∷ row 45 (sees t end) (refuses 10)
    ∷ row 46 (sees t back) (lists ((4, 258) ∷ []))
    ∷ row 47 (sees (made_all t back) step) (lists ((49, 0) ∷ (50, (r 0).function) ∷ (51, (r 0).place) ∷ (48, 1) ∷ (9, 14) ∷ []))
    ∷ row 48 (sees (after_steps 4 (made_all t back)) end) (lists ((4, 2) ∷ []))
    ∷ []

-- calls behind a shrink of `filled`, each lent a list of its own: the sixteen items move, and deletes make room for the last four. The last step
-- has to move an item for it
abbrev pub calls : List Call
calls = replicate 12 step ++ (delete 1 ∷ step ∷ delete 5 ∷ step ∷ delete 9 ∷ step ∷ delete 0 ∷ step ∷ [])

abbrev pub lent : List ℕ
lent = replicate 20 0

abbrev pub lent_each : List Call → List Event
lent_each qs = map (λ (q : Call). whole q lent) qs

-- before them a back that is lent no word: 2, and nothing turns
abbrev pub refused_back : Event
refused_back = whole back []

-- "40N + 2 for one whole shrink from N top buckets": with N = 4 one shrink, fifteen steps of five stores, one of ten and an end are 87 stores, and
-- the deletes between them are none of its own; nor is a refused back a turning back. 20N + 2 are 82
unfoldable pub spends : Table → List Row
spends t =
    row 49 (words (spent t (whole shrink lent ∷ refused_back ∷ lent_each (calls ++ (end ∷ []))) ∷ [])) (words (87 ∷ []))
    ∷ []

-- what the tables take as done was answered with 0
unfoldable pub ready : (ℕ → Record) → List Row
ready r =
    row 50 (words (answered r new three)) (words (replicate 3 0))
    ∷ row 50 (words (answered r new nine)) (words (replicate 9 0))
    ∷ row 50 (words (answered r new sixteen)) (words (replicate 16 0))
    ∷ []

unfoldable pub cases : (ℕ → Record) → List Row
cases r =
    let t = resting r in
    let u = made_all t shrink in
    shrinks r t u ++ (turns r u (made_all u back) (after_steps 3 u)
    ++ (looks r (create_result (replicate 204 7) 1 3 3 4294967297 8589934593).1 (create_result (replicate 204 7) 1 3 2 4294967297 4294967297).1
    ++ (leaves r (after_steps 4 (made_all (crowded r) shrink)) ++ (spends (filled r) ++ ready r))))

-- where this is unfolded every rule computes
unfoldable pub opened : Bool
unfolding product_of hash_of flat_map words_for state_of state_word at_rest shrinking header_of flag_of target_of logged_of state_good odd capacity_tests header_tests
    top_of bottom_of interim_of levels_in_use buckets_of all_buckets exponent_in_use unused_buckets slot_at slots_in place_of place_at slots_of slots_in_use token_word
    key_word spot_of function_word place_word key_in record_in token_of form_good tagged mixed tag_of word_read tag_in fits mark_meant
    token_number is_taken show hide taken_of meant taken meant_of hashes_of first_place second_place
    same_place places_in probes holds hit_in lookup taken_in free_slot fewer emptier room_in other_place items_of candidates move_of placing put_stores
    clear_stores move_stores placing_stores redo_stores update_stores turned_of state_stores step_stores written taken_slots tokens_tidy unused_empty places_of
    in_place orderly_tests same_key twins same_record target finding stepped_from_means header_good list_long flag_clear changing_tests query_tests recover_tests
    begin_tests begin_of shrink_tests shrink_of back_tests back_of interim_slots interim_items interim_bucket items_from has_place step_item step_tests step_of
    end_tests end_of outcome change_result query_result step_from_result create_tests created create_result make_tests make_result made_first made_all resting
    crowded filled changes shrinks refusing turns looks leaves spends ready cases
opened = true

-- the rules compute what the request asks for
pub resize_cases : (r : ℕ → Record) → map (λ (x : Row). x.computed) (cases r) ≡ map (λ (x : Row). x.paper) (cases r)
unfolding opened
resize_cases r = refl

-- what row 49 counts, in facts: one whole shrink of a table with k = 2
pub costly :
    let t = filled (λ (key : ℕ). record_of 10 20) in
    ((header_of t).state.k ≡ 2) × (spent t (whole shrink lent ∷ refused_back ∷ lent_each (calls ++ (end ∷ []))) ≡ 87)
    × Accepted (change_result t lent shrink).0
    × Accepted (change_result (after_all (after t (whole shrink lent)) (refused_back ∷ lent_each calls)) lent end).0
unfolding opened
costly = (refl, refl, tt, tt)
