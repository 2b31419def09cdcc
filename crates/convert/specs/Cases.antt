-- The program of request h), sentence by sentence, as one table of inputs and outputs, computed from the definitions.
-- Assumes nothing.
use Rattle.std.specs.Prelude.{ℕ, ◌≡◌, refl, replicate}
use Prim.Native.String.{String}
use mathlib.Core.List.{List, [], ◌∷◌, ◌++◌, map, flat_map}
use Rattle.words.specs.Product.{product_of, hash_of}
use Rattle.rules.specs.Forms.{form_good, tagged, mixed, tag_of}
use Rattle.rules.specs.Words.{word_read, tag_in, mark_meant}
use Rattle.rules.specs.Places.{fits}
use Rattle.rules.specs.Words.{words_for, state_of, state_word, at_rest, shrinking, header_of, flag_of, state_good, odd, capacity_tests, header_tests, top_of, bottom_of}
use Rattle.rules.specs.Words.{interim_of, levels_in_use, slot_at, slots_in, place_at, place_of, token_word, key_word, function_word, place_word, key_in, record_in}
use Rattle.rules.specs.Words.{token_of, token_number, is_taken, show, taken, buckets_of, all_buckets, exponent_in_use, unused_buckets, slots_of, slots_in_use}
use Rattle.rules.specs.Words.{meant, meant_of, hide, taken_of, keys_of, target_of, logged_of, lowest_free}
use Rattle.rules.specs.Places.{hashes_of, first_place, second_place, same_place, places_in, probes, places_of, holds, hit_in, lookup}
use Rattle.rules.specs.Placing.{taken_in, free_slot, fewer, emptier, room_in, other_place, items_of, candidates, move_of, placing}
use Rattle.rules.specs.Stores.{put_stores, move_stores, placing_stores, written, clear_stores, redo_stores, update_stores, turned_of, state_stores, step_stores}
use Rattle.rules.specs.Calls.{header_good, list_long, flag_clear, changing_tests, query_tests, end_tests, end_of, outcome, recover_tests, begin_tests, begin_of}
use Rattle.rules.specs.Calls.{shrink_tests, shrink_of}
use Rattle.rules.specs.Calls.{interim_slots, interim_items, interim_bucket, items_from, has_place, step_item, step_tests, step_of}
use Rattle.rules.specs.Results.{change_result, query_result, create_tests, created, create_result, make_tests, make_result}
use Rattle.rules.specs.Soundness.{taken_slots, tokens_tidy, unused_empty, in_place, orderly_tests, same_key, twins, same_record, target, finding, sound_tests}
use Rattle.lines.specs.Lines.{bytes, decimal_of, line_of}
use Rattle.lines.specs.Texts.{digits_in, decimal_text}
use Rattle.following.specs.Scripts.{reading_of, ending_of}
use Rattle.replaying.specs.Events.{answer_to, table_after}
use Rattle.replaying.specs.Replays.{turn_of, finish_of}
use Rattle.rules.specs.Conversions.{convert_tests, other_form, fresh_for, filling, convert_result}
use Rattle.convert.specs.Outputs.{ways_from, report_to, output_to}

-- the header of the smallest table, whose keys below 2^32 all have the same places
abbrev pub smallest : String → List ℕ
smallest lines = bytes "cap=1\ntop=1\nmul1=1\nmul2=1\n" ++ bytes lines

-- and of document 01's marked examples, with four records that fill a bucket
abbrev pub full : String → List ℕ
full lines =
    bytes "cap=2\ntop=1\nmul1=4294967297\nmul2=12884901889\nop=insert\nkey=1\nfn=30\nat=1\nop=insert\nkey=3\nfn=0\nat=1\n"
    ++ bytes "op=insert\nkey=5\nfn=9\nat=1\nop=insert\nkey=7\nfn=10\nat=1\n" ++ bytes lines

-- keys 0, 2^32, .. 8·2^32: in form 1 every second one has another place in the top, in form 2 all have the same
abbrev pub apart : String → List ℕ
apart lines =
    bytes "cap=1\ntop=1\nmul1=4294967297\nmul2=4294967297\nop=insert\nkey=0\nfn=1\nat=1\nop=insert\nkey=4294967296\nfn=1\nat=1\n"
    ++ bytes "op=insert\nkey=8589934592\nfn=1\nat=1\nop=insert\nkey=12884901888\nfn=1\nat=1\nop=insert\nkey=17179869184\nfn=1\nat=1\n"
    ++ bytes "op=insert\nkey=21474836480\nfn=1\nat=1\nop=insert\nkey=25769803776\nfn=1\nat=1\nop=insert\nkey=30064771072\nfn=1\nat=1\n"
    ++ bytes lines

-- thirteen keys that form 2 places so that the last of them has no place in form 1 again
abbrev pub no_way_back : List ℕ
no_way_back =
    bytes "cap=2\ntop=2\nmul1=1\nmul2=4294967297\n"
    ++ bytes "op=insert\nkey=8589934592\nfn=1\nat=1\nop=insert\nkey=0\nfn=1\nat=1\nop=insert\nkey=8589934596\nfn=1\nat=1\nop=insert\nkey=4\nfn=1\nat=1\n"
    ++ bytes "op=insert\nkey=8\nfn=1\nat=1\nop=insert\nkey=2\nfn=1\nat=1\nop=insert\nkey=8589934594\nfn=1\nat=1\nop=insert\nkey=12\nfn=1\nat=1\n"
    ++ bytes "op=insert\nkey=16\nfn=1\nat=1\nop=insert\nkey=20\nfn=1\nat=1\nop=insert\nkey=8589934593\nfn=1\nat=1\n"
    ++ bytes "op=insert\nkey=6\nfn=1\nat=1\nop=insert\nkey=24\nfn=1\nat=1\n"

abbrev pub cases : List (List ℕ × String)
cases =
    -- "prints `answer=` and `key=` of the way to form 2, and where that is 0 the same two lines of the way back"; no answer of the script is told
    (full "op=query\nkey=1\n", "answer=0\nkey=0\nanswer=0\nkey=0\n")
    ∷ (smallest "", "answer=0\nkey=0\nanswer=0\nkey=0\n")
    -- "`bad=` and `made=13` as the ledger has them, no sample lines"
    ∷ (bytes "cap=8\ntop=1\nmul1=1\nmul2=1\nop=what\n", "made=13\n")
    ∷ (bytes "cap=8\ntop=1\nmul1=x\n", "bad=3\n")
    ∷ (bytes "", "bad=1\n")
    ∷ (smallest "op=end\nsample=1\n", "bad=6\n")
    ∷ (smallest "op=end", "bad=5\n")
    -- "the table NOT recovered": a cut update leaves its flag set, and 12 is the answer; a recovery of the script's own mends it
    ∷ (full "op=cut\nafter=5\nop=update\nkey=1\nfn=7\nat=8\n", "answer=12\nkey=0\n")
    ∷ (full "op=cut\nafter=5\nop=update\nkey=1\nfn=7\nat=8\nop=recover\n", "answer=0\nkey=0\nanswer=0\nkey=0\n")
    -- a table that grows or shrinks gives 7, but where a cut step leaves a key in two slots 12
    ∷ (full "op=insert\nkey=9\nfn=1\nat=1\nop=begin\n", "answer=7\nkey=0\n")
    ∷ (bytes "cap=2\ntop=2\nmul1=1\nmul2=1\nop=shrink\n", "answer=7\nkey=0\n")
    ∷ (full "op=insert\nkey=9\nfn=1\nat=1\nop=begin\nop=cut\nafter=4\nop=step\n", "answer=12\nkey=0\n")
    -- eight keys find a place in form 2, and the ninth finds none
    ∷ (apart "", "answer=0\nkey=0\nanswer=0\nkey=0\n")
    ∷ (apart "op=insert\nkey=34359738368\nfn=1\nat=1\n", "answer=6\nkey=34359738368\n")
    -- the way back may be refused too
    ∷ (no_way_back, "answer=0\nkey=0\nanswer=6\nkey=24\n")
    ∷ []

-- the definitions compute what is asked for, on used words
pub cases-computed : map (λ (x : List ℕ × String). output_to (replicate 100 7) x.0) cases ≡ map (λ (x : List ℕ × String). bytes x.1) cases
unfolding product_of hash_of flat_map words_for state_of state_word at_rest shrinking header_of flag_of state_good odd capacity_tests header_tests top_of bottom_of
    interim_of levels_in_use buckets_of all_buckets exponent_in_use unused_buckets slot_at slots_in place_of place_at slots_of slots_in_use token_word key_word
    function_word place_word key_in record_in token_of form_good tagged mixed tag_of word_read tag_in fits mark_meant token_number is_taken show hide taken_of
    meant taken meant_of hashes_of first_place second_place same_place places_in probes holds hit_in lookup taken_in free_slot fewer emptier room_in placing
    put_stores clear_stores placing_stores redo_stores update_stores state_stores step_stores written taken_slots tokens_tidy unused_empty places_of in_place
    orderly_tests same_key twins same_record target finding header_good list_long flag_clear changing_tests query_tests recover_tests begin_tests begin_of
    interim_slots interim_items interim_bucket items_from has_place step_item step_tests step_of end_tests end_of outcome change_result query_result create_tests
    created create_result make_tests make_result decimal_of line_of digits_in decimal_text reading_of ending_of answer_to table_after turn_of finish_of keys_of
    target_of logged_of lowest_free sound_tests convert_tests other_form fresh_for filling convert_result ways_from report_to output_to other_place items_of
    candidates move_of move_stores turned_of shrink_tests shrink_of
cases-computed = refl
