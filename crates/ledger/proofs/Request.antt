-- Every statement of request d) is proved.
-- Assumes nothing.
use Rattle.tallying.proofs.Sentences.{first_are_counted, only_named_are_counted, functions_ascend, each_sample_counts, samples_of_each, all_samples_count}
use Rattle.lines.proofs.Samples.{sample_texts_say, only_sample_texts_say, samples_start, others_do_not}
use Rattle.replaying.proofs.Enough.{room_is_enough, room_makes_all, larger_is_refused}
use Rattle.crediting.proofs.Whole.{reports_are_one}
use Rattle.crediting.proofs.Counting.{lines_counted}
use Rattle.crediting.proofs.Sentences.{bad_lines_end, bad_end, refused_tables_end, final_map, unrecovered_ends, unrecovered_at_end, samples_reported, other_lines_end}
use Rattle.crediting.proofs.Sentences.{torn_samples_end, bad_first_sample_ends, ends_are_known, missing_counted, named_in_order, buckets_added, credits_stood, counts_exact}
use Rattle.crediting.proofs.Sentences.{sum_is_samples}
use Rattle.posting.proofs.Whole.{bytes_reported_as_lines, parts_are_posted, known_stays}
use Rattle.ledger.specs.Request.{SampleLedger}
use Rattle.ledger.proofs.Parts.{parts_written, known_parts_written}

pub sample_ledger : SampleLedger
sample_ledger =
    record {
      lines =
          record {
            sample_texts_say = sample_texts_say;
            only_sample_texts_say = only_sample_texts_say;
            samples_start = samples_start;
            others_do_not = others_do_not;
          };
      ends =
          record {
            lines_counted = lines_counted;
            bad_lines_end = bad_lines_end;
            bad_end = bad_end;
            refused_tables_end = refused_tables_end;
            unrecovered_ends = unrecovered_ends;
            unrecovered_at_end = unrecovered_at_end;
            other_lines_end = other_lines_end;
            torn_samples_end = torn_samples_end;
            bad_first_sample_ends = bad_first_sample_ends;
            ends_are_known = ends_are_known;
          };
      counts =
          record {
            final_map = final_map;
            samples_reported = samples_reported;
            missing_counted = missing_counted;
            named_in_order = named_in_order;
            buckets_added = buckets_added;
            credits_stood = credits_stood;
            counts_exact = counts_exact;
          };
      functions =
          record {
            first_are_counted = first_are_counted;
            only_named_are_counted = only_named_are_counted;
            functions_ascend = functions_ascend;
            each_sample_counts = each_sample_counts;
            samples_of_each = samples_of_each;
            all_samples_count = all_samples_count;
            sum_is_samples = sum_is_samples;
          };
      written =
          record {
            reports_are_one = reports_are_one;
            bytes_reported_as_lines = bytes_reported_as_lines;
            parts_are_posted = parts_are_posted;
            known_stays = known_stays;
            parts_written = parts_written;
            known_parts_written = known_parts_written;
            room_is_enough = room_is_enough;
            room_makes_all = room_makes_all;
            larger_is_refused = larger_is_refused;
          };
    }
