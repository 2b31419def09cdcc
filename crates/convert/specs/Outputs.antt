-- Request h), "Move customers to form 2, and back.": the bytes that its program writes for an input. It "reads a table script to its end, with `bad=` and
-- `made=13` as the ledger has them, no sample lines, the table NOT recovered; prints `answer=` and `key=` of the way to form 2, and where that is 0 the
-- same two lines of the way back".
-- Assumes nothing.
use Rattle.std.specs.Prelude.{ℕ, Bool, length, replicate}
use mathlib.Core.List.{List, [], ◌∷◌, map, flat_map}
use Rattle.rules.specs.Words.{Table}
use Rattle.rules.specs.Answers.{number_of, conversion_means}
use Rattle.rules.specs.Conversions.{convert_result}
use Rattle.rules.specs.declared.Refusal.{Refusal}
use Rattle.std.specs.Prelude.{Ok, Err}
use Rattle.rules.specs.Answers.{Conversion}
use Rattle.lines.specs.Lines.{line_of}
use Rattle.replaying.specs.Replays.{begun, table_of, finish_of}
use Rattle.replaying.specs.declared.Answer.{Answer}
use Rattle.replaying.specs.declared.Answer.TheVariants.{Nothing, Created, Changed, Kept, Found, Events, Bad}
use Rattle.replaying.specs.declared.Replay.{Replay}
use Rattle.rules.specs.declared.Unconverted.TheVariants.{Stuck, Rejected}
use Rattle.running.specs.Runs.{split, over_lines}
use Rattle.saying.specs.Texts.{line_text, answer_lines}

-- ---- the ways

-- "where that is 0 .. the way back": u is the table of form 2, and the first table's words are lent for the other
abbrev pub back_to : Table → Conversion × Table → List Conversion
back_to t (Ok tt, u) = (convert_result u t).0 ∷ []
back_to t (Err (Stuck key), u) = []
back_to t (Err (Rejected e), u) = []

-- what the way to form 2 answers, in a second table s, and what the way back does
abbrev pub ways_in : Table → Table → List Conversion
ways_in t s = let there = convert_result t s in there.0 ∷ back_to t there

-- in a second table of the same length
unfoldable pub ways_from : Table → List Conversion
ways_from t = ways_in t (replicate (length t) 0)

-- ---- the report

-- a bad line, a table that is not made, or what the ways answer
pub data Report : Type 0 where
  bad_line : ℕ → Report
  unmade : Refusal → Report
  converted : List Conversion → Report

-- what is told of a line's answer, and of the lines behind it: "`bad=` and `made=13`" end it, and no other answer is told
abbrev pub with_answer : Answer → Report → Report
with_answer (Bad n) later = bad_line n
with_answer (Created (Err e)) later = unmade e
with_answer (Created (Ok tt)) later = later
with_answer Nothing later = later
with_answer (Changed r) later = later
with_answer (Kept r n) later = later
with_answer (Found q) later = later
with_answer (Events n) later = later

-- "to its end": a line that is torn or missing there is a bad one. Else the table is converted as it stands
abbrev pub at_end : List ℕ → Replay → Bool → Report
at_end room p torn = with_answer (finish_of p torn) (converted (ways_from (table_of p room)))

-- what is told of an input, on lent words
unfoldable pub report_to : List ℕ → List ℕ → Report
report_to room input = over_lines with_answer at_end room begun (map line_of (split input).0) (split input).1

-- ---- its text

-- "`answer=` and `key=`"
abbrev pub way_text : Conversion → List ℕ
way_text a = flat_map line_text (answer_lines ("key" ∷ []) (conversion_means a).number (conversion_means a).values)

abbrev pub ways_text : Table → List ℕ
ways_text t = flat_map way_text (ways_from t)

abbrev pub report_text : Report → List ℕ
report_text (bad_line n) = line_text ("bad", n)
report_text (unmade e) = line_text ("made", number_of e)
report_text (converted ways) = flat_map way_text ways

unfoldable pub output_to : List ℕ → List ℕ → List ℕ
output_to room input = report_text (report_to room input)
