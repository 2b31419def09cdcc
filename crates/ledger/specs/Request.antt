-- Request d), "The sample ledger.", as one theorem: every statement of it, with the crate that has it. Its proof is `proofs/Request`.
-- Assumes nothing.
use Rattle.tallying.specs.Sentences.{FirstAreCounted, OnlyNamedAreCounted, FunctionsAscend, EachSampleCounts, SamplesOfEach, AllSamplesCount}
use Rattle.lines.specs.Samples.{SampleTextsSay, OnlySampleTextsSay, SamplesStart, OthersDoNot}
use Rattle.replaying.specs.Rooms.{RoomIsEnough, RoomMakesAll, LargerIsRefused}
use Rattle.crediting.specs.Books.{ReportsAreOne}
use Rattle.crediting.specs.Sentences.{LinesCounted, BadLinesEnd, BadEnd, RefusedTablesEnd, FinalMap, UnrecoveredEnds, UnrecoveredAtEnd}
use Rattle.crediting.specs.Sentences.{SamplesReported, OtherLinesEnd, TornSamplesEnd, BadFirstSampleEnds, MissingCounted, NamedInOrder, BucketsAdded}
use Rattle.crediting.specs.Sentences.{EndsAreKnown, CreditsStood, CountsExact, SumIsSamples}
use Rattle.posting.specs.Posts.{BytesReportedAsLines, PartsArePosted, KnownStays}
use Rattle.ledger.specs.Parts.{PartsWritten, KnownPartsWritten}

-- "lines `sample=` with a key"
pub record SampleLines : Type 0 where
  pub sample_texts_say : SampleTextsSay
  pub only_sample_texts_say : OnlySampleTextsSay
  pub samples_start : SamplesStart
  pub others_do_not : OthersDoNot

-- "`bad=` or `made=13` end it", "`answer=12` is the whole report"
pub record Ends : Type 0 where
  pub lines_counted : LinesCounted
  pub bad_lines_end : BadLinesEnd
  pub bad_end : BadEnd
  pub refused_tables_end : RefusedTablesEnd
  pub unrecovered_ends : UnrecoveredEnds
  pub unrecovered_at_end : UnrecoveredAtEnd
  pub other_lines_end : OtherLinesEnd
  pub torn_samples_end : TornSamplesEnd
  pub bad_first_sample_ends : BadFirstSampleEnds
  pub ends_are_known : EndsAreKnown

-- "each count is defined from the input lines and the final map"
pub record CountsByTheMap : Type 0 where
  pub final_map : FinalMap
  pub samples_reported : SamplesReported
  pub missing_counted : MissingCounted
  pub named_in_order : NamedInOrder
  pub buckets_added : BucketsAdded
  -- request e): "the ledger of d) rest on that lookup"
  pub credits_stood : CreditsStood
  pub counts_exact : CountsExact

-- "The first 512 different functions in input order are counted; samples of further ones count as `other`", and the total
pub record FunctionsCounted : Type 0 where
  pub first_are_counted : FirstAreCounted
  pub only_named_are_counted : OnlyNamedAreCounted
  pub functions_ascend : FunctionsAscend
  pub each_sample_counts : EachSampleCounts
  pub samples_of_each : SamplesOfEach
  pub all_samples_count : AllSamplesCount
  pub sum_is_samples : SumIsSamples

-- what the program writes is that report, for every input and however it comes
pub record Written : Type 0 where
  pub reports_are_one : ReportsAreOne
  pub bytes_reported_as_lines : BytesReportedAsLines
  pub parts_are_posted : PartsArePosted
  pub known_stays : KnownStays
  pub parts_written : PartsWritten
  pub known_parts_written : KnownPartsWritten
  pub room_is_enough : RoomIsEnough
  pub room_makes_all : RoomMakesAll
  pub larger_is_refused : LargerIsRefused

pub record SampleLedger : Type 0 where
  pub lines : SampleLines
  pub ends : Ends
  pub counts : CountsByTheMap
  pub functions : FunctionsCounted
  pub written : Written
