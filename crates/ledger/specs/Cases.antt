-- Request d), sentence by sentence, as one table of inputs and outputs, computed from the definitions of the library.
-- Assumes nothing.
use Rattle.std.specs.Prelude.{ℕ, ◌≡◌, refl, replicate}
use Prim.Native.String.{String}
use mathlib.Core.List.{List, [], ◌∷◌, ◌++◌, map, flat_map}
use Rattle.words.specs.Product.{product_of, hash_of}
use Rattle.rules.specs.Forms.{form_good, tagged, mixed, tag_of}
use Rattle.rules.specs.Words.{word_read, tag_in, mark_meant}
use Rattle.rules.specs.Places.{fits}
use Rattle.rules.specs.Words.{words_for, state_of, state_word, at_rest, shrinking, header_of, flag_of, state_good, odd, capacity_tests, header_tests, top_of, bottom_of}
use Rattle.rules.specs.Words.{interim_of, levels_in_use, slot_at, slots_in, place_at, place_of, token_word, key_word, function_word, place_word, key_in, record_in}
use Rattle.rules.specs.Words.{token_of, token_number, is_taken, show, taken, buckets_of, all_buckets, exponent_in_use, unused_buckets, slots_of, slots_in_use}
use Rattle.rules.specs.Words.{meant, meant_of, hide, taken_of, keys_of, target_of, logged_of, lowest_free}
use Rattle.rules.specs.Places.{hashes_of, first_place, second_place, same_place, places_in, probes, places_of, holds, hit_in, lookup}
use Rattle.rules.specs.Placing.{taken_in, free_slot, fewer, emptier, room_in, placing}
use Rattle.rules.specs.Stores.{put_stores, placing_stores, written, clear_stores, redo_stores, update_stores, state_stores, step_stores}
use Rattle.rules.specs.Calls.{header_good, list_long, flag_clear, changing_tests, query_tests, end_tests, end_of, outcome, recover_tests, begin_tests, begin_of}
use Rattle.rules.specs.Calls.{interim_slots, interim_items, interim_bucket, items_from, has_place, step_item, step_tests, step_of}
use Rattle.rules.specs.Results.{change_result, query_result, create_tests, created, create_result, make_tests, make_result}
use Rattle.rules.specs.Soundness.{map_of, taken_slots, tokens_tidy, unused_empty, in_place, orderly_tests, same_key, twins, same_record, target, finding}
use Rattle.lines.specs.Lines.{bytes, decimal_of, line_of}
use Rattle.lines.specs.Texts.{digits_in, decimal_text}
use Rattle.lines.specs.Samples.{sample_of}
use Rattle.following.specs.Scripts.{reading_of, ending_of}
use Rattle.replaying.specs.Events.{answer_to, table_after}
use Rattle.replaying.specs.Replays.{turn_of, finish_of}
use Rattle.tallying.specs.Functions.{counted_of, times_in, further_in, ascending}
use Rattle.tallying.specs.Credits.{credits_of}
use Rattle.crediting.specs.Ledgers.{figures_of, samples_report, report_of}
use Rattle.posting.specs.Posts.{report_to}
use Rattle.reporting.specs.Texts.{function_text, function_texts, counts_text}
use Rattle.ledger.specs.Outputs.{output_to}

-- the header of the smallest table
abbrev pub smallest : String → List ℕ
smallest lines = bytes "cap=1\ntop=1\nmul1=1\nmul2=1\n" ++ bytes lines

-- and of document 01's marked examples
abbrev pub marked : String → List ℕ
marked lines = bytes "cap=2\ntop=1\nmul1=4294967297\nmul2=12884901889\n" ++ bytes lines

-- four records that fill a bucket
abbrev pub full : String → List ℕ
full lines =
    marked "op=insert\nkey=1\nfn=30\nat=1\nop=insert\nkey=3\nfn=0\nat=1\nop=insert\nkey=5\nfn=9\nat=1\nop=insert\nkey=7\nfn=10\nat=1\n"
    ++ bytes lines

-- a table that recovery refuses: a step was cut twice, so that its key stands three times
abbrev pub refused : String → List ℕ
refused lines =
    marked "op=insert\nkey=0\nfn=1\nat=1\nop=insert\nkey=2\nfn=1\nat=1\nop=insert\nkey=4\nfn=1\nat=1\nop=insert\nkey=6\nfn=1\nat=1\n"
    ++ bytes "op=insert\nkey=8\nfn=1\nat=1\nop=begin\nop=cut\nafter=4\nop=step\nop=cut\nafter=4\nop=step\n" ++ bytes lines

abbrev pub cases : List (List ℕ × String)
cases =
    -- "lines `sample=` with a key", "samples, samples with no record, samples for each function named, and buckets looked at in all"
    (marked "op=insert\nkey=1\nfn=10\nat=20\nsample=1\nsample=3\nsample=1\n", "samples=3\nnone=1\nfn10=2\nother=0\nbuckets=4\n")
    -- "one `fn` line for each function ascending", as numbers, and not by first appearance; a function that no sample names has no line
    ∷ (
      full "sample=1\nsample=7\nsample=5\nsample=1\nsample=9\n",
      "samples=5\nnone=1\nfn9=1\nfn10=1\nfn30=2\nother=0\nbuckets=6\n",
    )
    -- function 0 is one like any other, and absent keys are not credited to it
    ∷ (full "sample=2\nsample=3\nsample=4\n", "samples=3\nnone=2\nfn0=1\nother=0\nbuckets=5\n")
    -- "Script answers are not printed", and a query of the script looks at no bucket that is reported. A report of zeros
    ∷ (full "op=query\nkey=1\nop=end\n", "samples=0\nnone=0\nother=0\nbuckets=0\n")
    ∷ (smallest "", "samples=0\nnone=0\nother=0\nbuckets=0\n")
    -- "`bad=` or `made=13` end it", without `events=`, and no later line is read
    ∷ (bytes "cap=9\ntop=1\nmul1=1\nmul2=1\nsample=x\n", "made=13\n")
    ∷ (bytes "cap=1\ntop=2\nmul1=1\nmul2=1\n", "made=13\n")
    ∷ (bytes "cap=9\ntop=1\nmul1=x\n", "bad=3\n")
    ∷ (bytes "", "bad=1\n")
    ∷ (smallest "op=what\nsample=1\n", "bad=5\n")
    ∷ (smallest "op=insert\nkey=1\nfn=1\n", "bad=8\n")
    -- lines are counted over the whole input, and a bad sample line is told behind good ones
    ∷ (smallest "sample=1\nsample=2\nsample=x\nsample=3\n", "bad=7\n")
    ∷ (smallest "op=end\nsample=01\n", "bad=6\n")
    ∷ (smallest "sample=18446744073709551615\n", "samples=1\nnone=1\nother=0\nbuckets=2\n")
    ∷ (smallest "sample=18446744073709551616\n", "bad=5\n")
    ∷ (smallest "sample=1\nsample=2", "bad=6\n")
    -- "from there on every line is a sample line, and any other is bad"
    ∷ (smallest "sample=1\nop=end\n", "bad=6\n")
    ∷ (smallest "sample=1\n\n", "bad=6\n")
    -- where no event line could stand, `sample=` is a bad line as any other; behind a cut line, the cut line is the bad one
    ∷ (bytes "cap=1\nsample=1\n", "bad=2\n")
    ∷ (smallest "op=query\nsample=1\n", "bad=6\n")
    ∷ (smallest "op=cut\nsample=1\n", "bad=6\n")
    ∷ (smallest "op=cut\nafter=1\nsample=1\n", "bad=5\n")
    -- "The table is recovered before the first sample": an update that was cut within its record is made whole, and one that was cut before the flag
    -- is not made
    ∷ (full "op=cut\nafter=5\nop=update\nkey=1\nfn=7\nat=8\nsample=1\n", "samples=1\nnone=0\nfn7=1\nother=0\nbuckets=1\n")
    ∷ (full "op=cut\nafter=3\nop=update\nkey=1\nfn=7\nat=8\nsample=1\n", "samples=1\nnone=0\nfn30=1\nother=0\nbuckets=1\n")
    -- "if that is refused, `answer=12` is the whole report", and no later line is read; also where the input has ended
    ∷ (refused "sample=8\nsample=x\n", "answer=12\n")
    ∷ (refused "", "answer=12\n")
    -- but a bad line before the first good sample is told
    ∷ (refused "sample=x\nsample=8\n", "bad=32\n")
    ∷ []

-- the definitions compute what the request asks for, on used words
pub cases-computed : map (λ (x : List ℕ × String). output_to (replicate 100 7) x.0) cases ≡ map (λ (x : List ℕ × String). bytes x.1) cases
unfolding product_of hash_of flat_map words_for state_of state_word at_rest shrinking header_of flag_of state_good odd capacity_tests header_tests top_of bottom_of interim_of
    levels_in_use buckets_of all_buckets exponent_in_use unused_buckets slot_at slots_in place_of place_at slots_of slots_in_use token_word key_word function_word
    place_word key_in record_in token_of form_good tagged mixed tag_of word_read tag_in fits mark_meant token_number is_taken show hide taken_of meant taken
    meant_of hashes_of first_place second_place same_place places_in
    probes holds hit_in lookup taken_in free_slot fewer emptier room_in placing put_stores clear_stores placing_stores redo_stores update_stores state_stores
    step_stores written map_of taken_slots tokens_tidy unused_empty places_of in_place orderly_tests same_key twins same_record target finding header_good list_long
    flag_clear changing_tests query_tests recover_tests begin_tests begin_of interim_slots interim_items interim_bucket items_from has_place step_item step_tests
    step_of end_tests end_of outcome change_result query_result create_tests created create_result make_tests make_result decimal_of line_of digits_in decimal_text
    reading_of ending_of answer_to table_after turn_of finish_of
    keys_of target_of logged_of lowest_free sample_of counted_of times_in further_in ascending credits_of figures_of samples_report report_of report_to
    function_text function_texts counts_text output_to
cases-computed = refl
