-- Document 01, "Script program": what the program writes for an input, with its case and its other sentences as one
-- table, computed from the definitions of the library.
-- Assumes nothing.
use Rattle.std.specs.Prelude.{ℕ, ◌≡◌, refl, length, replicate}
use Prim.Native.String.{String}
use mathlib.Core.List.{List, [], ◌∷◌, ◌++◌, map, flat_map}
use Rattle.words.specs.Product.{product_of, hash_of}
use Rattle.rules.specs.Forms.{form_good, tagged, mixed, tag_of}
use Rattle.rules.specs.Words.{word_read, tag_in, mark_meant}
use Rattle.rules.specs.Places.{fits}
use Rattle.rules.specs.Words.{words_for, state_of, state_word, at_rest, shrinking as phase2, header_of, flag_of, state_good, odd, capacity_tests, header_tests}
use Rattle.rules.specs.Words.{top_of, bottom_of}
use Rattle.rules.specs.Words.{interim_of, levels_in_use, slot_at, slots_in, place_at, place_of, token_word, key_word, spot_of, function_word, place_word, key_in, record_in}
use Rattle.rules.specs.Words.{token_of, token_number, is_taken, show, taken, buckets_of, all_buckets, exponent_in_use, unused_buckets, slots_of, slots_in_use}
use Rattle.rules.specs.Words.{meant, meant_of, hide, taken_of}
use Rattle.rules.specs.Places.{hashes_of, first_place, second_place, same_place, places_in, probes, places_of, holds, hit_in, lookup}
use Rattle.rules.specs.Placing.{taken_in, free_slot, fewer, emptier, room_in, placing}
use Rattle.rules.specs.Stores.{put_stores, placing_stores, written, clear_stores, update_stores, turned_of, state_stores, step_stores}
use Rattle.rules.specs.Calls.{header_good, list_long, flag_clear, changing_tests, query_tests, end_tests, end_of, outcome, recover_tests, begin_tests, begin_of}
use Rattle.rules.specs.Calls.{shrink_tests, shrink_of, back_tests, back_of}
use Rattle.rules.specs.Calls.{interim_slots, interim_items, interim_bucket, items_from, has_place, step_item, step_tests, step_of}
use Rattle.rules.specs.Results.{change_result, query_result, create_tests, created, create_result, make_tests, make_result}
use Rattle.rules.specs.Soundness.{taken_slots, tokens_tidy, unused_empty, in_place, orderly_tests, same_key, twins, same_record, target, finding}
use Rattle.lines.specs.Lines.{bytes, decimal_of, line_of}
use Rattle.lines.specs.Texts.{digits_in, decimal_text}
use Rattle.following.specs.Scripts.{reading_of, ending_of}
use Rattle.replaying.specs.Events.{answer_to, table_after}
use Rattle.replaying.specs.Replays.{turn_of, finish_of}
use Rattle.running.specs.Runs.{line_room, ready, fed, answers_to}
use Rattle.saying.specs.Texts.{text_of}

-- the text of all that is answered to an input, on lent words
unfoldable pub output_to : List ℕ → List ℕ → List ℕ
output_to room input = flat_map text_of (answers_to room input)

-- so it is written, also where the input is fed byte by byte, as the program does, with that room for a line
abbrev pub BytesWritten : Type 0
BytesWritten = (room line input : List ℕ) → length line ≡ line_room → flat_map text_of (fed ready room line input) ≡ output_to room input

-- ---- document 01's case, and its other sentences, as inputs and outputs

-- the header of the smallest table
abbrev pub smallest : String → List ℕ
smallest events = bytes "cap=1\ntop=1\nmul1=1\nmul2=1\n" ++ bytes events

-- and of one that can grow
abbrev pub growing : String → List ℕ
growing events = bytes "cap=2\ntop=1\nmul1=1\nmul2=1\n" ++ bytes events

-- and of one that can shrink
abbrev pub shrinking : String → List ℕ
shrinking events = bytes "cap=2\ntop=2\nmul1=1\nmul2=1\n" ++ bytes events

abbrev pub cases : List (List ℕ × List ℕ)
cases =
    -- "Whole case, lines joined by commas here."
    (
      bytes "cap=2\ntop=1\nmul1=4294967297\nmul2=12884901889\nop=insert\nkey=1\nfn=10\nat=20\nop=query\nkey=1\nop=query\nkey=3\n",
      bytes "made=0\nanswer=0\nstores=4\nanswer=0\nfn=10\nat=20\nprobes=1\nword=36\nlevel=0\n"
          ++ bytes "answer=5\nfn=0\nat=0\nprobes=2\nword=0\nlevel=0\nevents=3\n",
    )
    -- "Program cap is at most 8; a larger one gives `made=13`." "After `made=13` comes `events=0`, and no event line is read."
    ∷ (bytes "cap=9\ntop=1\nmul1=1\nmul2=1\nop=what\n", bytes "made=13\nevents=0\n")
    -- and all four lines are read before
    ∷ (bytes "cap=9\ntop=1\nmul1=x\n", bytes "bad=3\n")
    -- "A number of 2^64 or more is bad, and so is the line missing where input ends too soon."
    ∷ (bytes "", bytes "bad=1\n")
    ∷ (bytes "cap=1\ntop=1\n", bytes "bad=3\n")
    ∷ (smallest "op=query\nkey=18446744073709551615\n", bytes "made=0\nanswer=5\nfn=0\nat=0\nprobes=2\nword=0\nlevel=0\nevents=1\n")
    ∷ (smallest "op=query\nkey=18446744073709551616\n", bytes "made=0\nbad=6\n")
    -- "no leading zeros, each ended by a newline"
    ∷ (bytes "cap=01\n", bytes "bad=1\n")
    ∷ (smallest "op=end", bytes "made=0\nbad=5\n")
    -- and by nothing else: neither a tab nor a carriage return ends a line or may stand in it, and an empty line is a bad one
    ∷ (bytes "cap=1\ttop=1\tmul1=1\tmul2=1\t", bytes "bad=1\n")
    ∷ (bytes "cap=1\r\ntop=1\n", bytes "bad=1\n")
    ∷ (bytes "\ncap=1\n", bytes "bad=1\n")
    ∷ (smallest "op=end\n\nop=end\n", bytes "made=0\nanswer=8\nstores=0\nbad=6\n")
    -- "First bad line: `bad=` its number, from 1, and stop.", after what was answered before
    ∷ (smallest "op=end\nop=what\nop=end\n", bytes "made=0\nanswer=8\nstores=0\nbad=6\n")
    -- "`op=cut` with `after`, which must stand right before a changing event or recover (else the cut line is the bad line)"
    ∷ (smallest "op=cut\nafter=1\nop=query\nkey=1\n", bytes "made=0\nbad=5\n")
    ∷ (smallest "op=cut\nafter=1\n", bytes "made=0\nbad=5\n")
    ∷ (smallest "op=cut\nafter=x\nop=end\n", bytes "made=0\nbad=6\n")
    -- "lets only that many of its stores be made, or all if there are fewer"; "An event under a cut line adds `kept=` .. the cut
    -- line itself is neither answered nor counted."
    ∷ (
      smallest "op=cut\nafter=3\nop=insert\nkey=1\nfn=2\nat=3\nop=query\nkey=1\n",
      bytes "made=0\nanswer=0\nstores=4\nkept=3\nanswer=5\nfn=0\nat=0\nprobes=2\nword=0\nlevel=0\nevents=2\n",
    )
    ∷ (
      smallest "op=cut\nafter=9\nop=insert\nkey=1\nfn=2\nat=3\nop=query\nkey=1\n",
      bytes "made=0\nanswer=0\nstores=4\nkept=4\nanswer=0\nfn=2\nat=3\nprobes=1\nword=23\nlevel=0\nevents=2\n",
    )
    -- each event with its lines, in their order
    ∷ (
      growing "op=insert\nkey=1\nfn=2\nat=3\nop=update\nkey=1\nfn=4\nat=5\nop=query\nkey=1\nop=delete\nkey=1\nop=begin\nop=step\nop=end\nop=recover\n",
      bytes "made=0\nanswer=0\nstores=4\nanswer=0\nstores=4\nanswer=0\nfn=4\nat=5\nprobes=1\nword=26\nlevel=0\nanswer=0\nstores=1\n"
          ++ bytes "answer=0\nstores=1\nanswer=11\nstores=0\nanswer=0\nstores=1\nanswer=0\nstores=0\nevents=8\n",
    )
    -- each that a cut line may stand before, under one
    ∷ (
      growing "op=insert\nkey=1\nfn=2\nat=3\nop=cut\nafter=2\nop=insert\nkey=4\nfn=5\nat=6\nop=cut\nafter=3\nop=update\nkey=1\n"
          ++ bytes "fn=4\nat=5\nop=cut\nafter=0\nop=delete\nkey=1\nop=query\nkey=1\n",
      bytes "made=0\nanswer=0\nstores=4\nanswer=0\nstores=4\nkept=2\nanswer=0\nstores=4\nkept=3\nanswer=0\nstores=1\nkept=0\n"
          ++ bytes "answer=0\nfn=2\nat=3\nprobes=1\nword=23\nlevel=0\nevents=5\n",
    )
    ∷ (
      growing "op=cut\nafter=1\nop=begin\nop=cut\nafter=7\nop=step\nop=cut\nafter=0\nop=end\nop=cut\nafter=0\nop=recover\nop=end\n",
      bytes "made=0\nanswer=0\nstores=1\nkept=1\nanswer=11\nstores=0\nkept=0\nanswer=0\nstores=1\nkept=0\nanswer=0\nstores=0\n"
          ++ bytes "kept=0\nanswer=0\nstores=1\nevents=5\n",
    )
    -- before any other line it is the bad one, whatever stands there
    ∷ (smallest "op=cut\nafter=1\nop=cut\nafter=1\nop=end\n", bytes "made=0\nbad=5\n")
    ∷ (smallest "op=cut\nafter=1\nkey=1\n", bytes "made=0\nbad=5\n")
    -- lines in another order, or missing
    ∷ (bytes "top=1\ncap=1\n", bytes "bad=1\n")
    ∷ (smallest "op=insert\nfn=1\n", bytes "made=0\nbad=6\n")
    ∷ (smallest "op=update\nkey=1\nat=1\n", bytes "made=0\nbad=7\n")
    ∷ (smallest "op=insert\nkey=1\nfn=2\n", bytes "made=0\nbad=8\n")
    ∷ (smallest "op=delete\nop=end\n", bytes "made=0\nbad=6\n")
    ∷ (smallest "op=query\nfn=1\n", bytes "made=0\nbad=6\n")
    ∷ (smallest "op=cut\nop=end\n", bytes "made=0\nbad=6\n")
    ∷ (smallest "op=end\nkey=1\n", bytes "made=0\nanswer=8\nstores=0\nbad=6\n")
    -- `op=step` is the step from the first interim bucket on: the fifth of these keys has no room in the top, and moves up in a growth
    ∷ (
      growing "op=insert\nkey=1\nfn=1\nat=1\nop=insert\nkey=2\nfn=2\nat=2\nop=insert\nkey=3\nfn=3\nat=3\n"
          ++ bytes "op=insert\nkey=4\nfn=4\nat=4\nop=insert\nkey=5\nfn=5\nat=6\nop=begin\nop=step\nop=step\nop=query\nkey=5\n",
      bytes "made=0\nanswer=0\nstores=4\nanswer=0\nstores=4\nanswer=0\nstores=4\nanswer=0\nstores=4\nanswer=0\nstores=4\nanswer=0\n"
          ++ bytes "stores=1\nanswer=0\nstores=5\nanswer=11\nstores=0\nanswer=0\nfn=5\nat=6\nprobes=1\nword=49\nlevel=0\nevents=9\n",
    )
    -- document 02, request e): "`word=` and `level=` (0, 1, 2) after `probes=`"; the fifth of these keys stands in the bottom, and while the table
    -- grows in the interim level
    ∷ (
      growing "op=insert\nkey=1\nfn=1\nat=1\nop=insert\nkey=2\nfn=2\nat=2\nop=insert\nkey=3\nfn=3\nat=3\nop=insert\nkey=4\nfn=4\nat=4\n"
          ++ bytes "op=insert\nkey=5\nfn=5\nat=6\nop=query\nkey=5\nop=begin\nop=query\nkey=5\nop=query\nkey=4\n",
      bytes "made=0\nanswer=0\nstores=4\nanswer=0\nstores=4\nanswer=0\nstores=4\nanswer=0\nstores=4\nanswer=0\nstores=4\nanswer=0\n"
          ++ bytes "fn=5\nat=6\nprobes=2\nword=10\nlevel=1\nanswer=0\nstores=1\nanswer=0\nfn=5\nat=6\nprobes=3\nword=10\nlevel=2\nanswer=0\n"
          ++ bytes "fn=4\nat=4\nprobes=2\nword=32\nlevel=1\nevents=9\n",
    )
    -- request f): "Scripts gain `op=shrink` and `op=back`.": in either phase and at rest, and under cut lines
    ∷ (
      shrinking "op=insert\nkey=1\nfn=2\nat=3\nop=shrink\nop=query\nkey=1\nop=shrink\nop=back\nop=query\nkey=1\n"
          ++ bytes "op=back\nop=step\nop=end\nop=shrink\nop=back\n",
      bytes "made=0\nanswer=0\nstores=4\nanswer=0\nstores=1\nanswer=0\nfn=2\nat=3\nprobes=3\nword=49\nlevel=2\nanswer=7\nstores=0\n"
          ++ bytes "answer=0\nstores=1\nanswer=0\nfn=2\nat=3\nprobes=1\nword=49\nlevel=0\nanswer=0\nstores=1\nanswer=0\nstores=5\n"
          ++ bytes "answer=0\nstores=1\nanswer=17\nstores=0\nanswer=8\nstores=0\nevents=11\n",
    )
    ∷ (
      shrinking "op=cut\nafter=0\nop=shrink\nop=cut\nafter=1\nop=shrink\nop=cut\nafter=0\nop=back\nop=cut\nafter=5\nop=back\nop=end\n",
      bytes "made=0\nanswer=0\nstores=1\nkept=0\nanswer=0\nstores=1\nkept=1\nanswer=0\nstores=1\nkept=0\nanswer=0\nstores=1\n"
          ++ bytes "kept=1\nanswer=0\nstores=1\nevents=5\n",
    )
    ∷ []

-- the definitions compute what document 01 writes, on used words
pub cases-computed : map (λ (x : List ℕ × List ℕ). output_to (replicate 100 7) x.0) cases ≡ map (λ (x : List ℕ × List ℕ). x.1) cases
unfolding product_of hash_of flat_map words_for state_of state_word at_rest phase2 header_of flag_of state_good odd capacity_tests header_tests top_of bottom_of interim_of
    levels_in_use buckets_of all_buckets exponent_in_use unused_buckets slot_at slots_in place_of place_at slots_of slots_in_use token_word key_word spot_of function_word
    place_word key_in record_in token_of form_good tagged mixed tag_of word_read tag_in fits mark_meant token_number is_taken show hide taken_of meant taken
    meant_of hashes_of first_place second_place same_place places_in
    probes holds hit_in lookup taken_in free_slot fewer emptier room_in placing put_stores clear_stores placing_stores update_stores turned_of state_stores
    step_stores written taken_slots tokens_tidy unused_empty places_of in_place orderly_tests same_key twins same_record target finding header_good list_long
    flag_clear changing_tests query_tests recover_tests begin_tests begin_of shrink_tests shrink_of back_tests back_of interim_slots interim_items interim_bucket
    items_from has_place step_item step_tests step_of end_tests end_of outcome change_result query_result create_tests created create_result make_tests make_result
    decimal_of line_of digits_in decimal_text reading_of ending_of answer_to table_after turn_of finish_of answers_to text_of output_to
cases-computed = refl
