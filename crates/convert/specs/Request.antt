-- The program of request h), as one theorem: every statement of it, with the crate that has it. Its proof is `proofs/Request`. What the conversion itself
-- does is `MovedForms` of the rules.
-- Assumes nothing.
use Rattle.replaying.specs.Rooms.{RoomIsEnough, RoomMakesAll, LargerIsRefused}
use Rattle.convert.specs.Parts.{PartsWritten, KnownPartsWritten, PartsAreTaken}
use Rattle.convert.specs.Sentences.{BadLinesEnd, BadEnd, RefusedTablesEnd, WholeScriptsConvert, NothingElseTold, LargerCapsNotMade, CapsToSevenMade}
use Rattle.convert.specs.Sentences.{RefusedWaysTold, BothWaysTold, WayToForm2}

-- "reads a table script to its end, with `bad=` and `made=13` as the ledger has them, no sample lines, the table NOT recovered"
pub record ScriptRead : Type 0 where
  pub bad_lines_end : BadLinesEnd
  pub bad_end : BadEnd
  pub refused_tables_end : RefusedTablesEnd
  pub whole_scripts_convert : WholeScriptsConvert
  pub nothing_else_told : NothingElseTold

-- "cap at most 7 (a larger one gives `made=13`; only this program has that limit)"
pub record CapsTaken : Type 0 where
  pub room_is_enough : RoomIsEnough
  pub room_makes_all : RoomMakesAll
  pub larger_is_refused : LargerIsRefused
  pub larger_caps_not_made : LargerCapsNotMade
  pub caps_to_seven_made : CapsToSevenMade

-- "prints `answer=` and `key=` of the way to form 2, and where that is 0 the same two lines of the way back"
pub record WaysPrinted : Type 0 where
  pub refused_ways_told : RefusedWaysTold
  pub both_ways_told : BothWaysTold
  pub way_to_form2 : WayToForm2

-- what the program writes is that report, for every input and however it comes
pub record Written : Type 0 where
  pub parts_are_taken : PartsAreTaken
  pub parts_written : PartsWritten
  pub known_parts_written : KnownPartsWritten

pub record ConversionProgram : Type 0 where
  pub script : ScriptRead
  pub caps : CapsTaken
  pub ways : WaysPrinted
  pub written : Written
