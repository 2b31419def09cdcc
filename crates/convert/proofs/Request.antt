-- Every statement about the program of request h) is proved.
-- Assumes nothing.
use Rattle.replaying.proofs.Enough.{room_is_enough, room_makes_all, larger_is_refused}
use Rattle.convert.specs.Request.{ConversionProgram}
use Rattle.convert.proofs.Parts.{parts_are_taken, parts_written, known_parts_written}
use Rattle.convert.proofs.Sentences.{bad_lines_end, bad_end, refused_tables_end, whole_scripts_convert, nothing_else_told, larger_caps_not_made, caps_to_seven_made}
use Rattle.convert.proofs.Sentences.{refused_ways_told, both_ways_told, way_to_form2}

pub conversion_program : ConversionProgram
conversion_program =
    record {
      script =
          record {
            bad_lines_end = bad_lines_end;
            bad_end = bad_end;
            refused_tables_end = refused_tables_end;
            whole_scripts_convert = whole_scripts_convert;
            nothing_else_told = nothing_else_told;
          };
      caps =
          record {
            room_is_enough = room_is_enough;
            room_makes_all = room_makes_all;
            larger_is_refused = larger_is_refused;
            larger_caps_not_made = larger_caps_not_made;
            caps_to_seven_made = caps_to_seven_made;
          };
      ways = record { refused_ways_told = refused_ways_told; both_ways_told = both_ways_told; way_to_form2 = way_to_form2 };
      written = record { parts_are_taken = parts_are_taken; parts_written = parts_written; known_parts_written = known_parts_written };
    }
