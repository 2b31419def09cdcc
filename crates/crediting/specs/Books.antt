-- A ledger line by line: what a line, and the end, make of it. `proofs/Whole` says that this gives the report of `Ledgers`.
-- Assumes nothing.
use Rattle.std.specs.Prelude.{◌≡◌, ℕ, ◌+◌, ◌%◌, ◌^◌, Bool, true, false, cond, List, [], ◌∷◌}
use Rattle.rules.specs.Results.{query_result}
use Rattle.rules.specs.declared.ScriptCall.TheVariants.{Recover}
use Rattle.std.specs.Prelude.{Ok, Err}
use Rattle.rules.specs.Answers.{Query}
use Rattle.tallying.specs.Credits.{credited}
use Rattle.lines.specs.Lines.{line_of}
use Rattle.lines.specs.Samples.{sample_of}
use Rattle.lines.specs.declared.Sample.{Sample}
use Rattle.lines.specs.declared.Sample.TheVariants.{Key, Bad as BadSample, Other}
use Rattle.std.specs.Prelude.{None as no_cut}
use Rattle.following.specs.declared.Asked.TheVariants.{Event as ask_event}
use Rattle.replaying.specs.Replays.{begun, table_of, asked_of, turn_of, finish_of}
use Rattle.replaying.specs.declared.Answer.{Answer}
use Rattle.replaying.specs.declared.Answer.TheVariants.{Nothing, Created, Changed, Kept, Found, Events, Bad as BadAnswer}
use Rattle.replaying.specs.declared.Replay.{Replay}
use Rattle.crediting.specs.Ledgers.{Figures, Report, unmade, unrecovered, bad_line, counts, line_behind, event_due, report_of}
use Rattle.crediting.specs.declared.Stage.{Stage}
use Rattle.crediting.specs.declared.Stage.TheVariants.{Script, Samples, Unmade, Unrecovered, Bad}
use Rattle.crediting.specs.declared.Counts.{Counts}
use Rattle.crediting.specs.declared.Ledger.{Ledger}

-- where a ledger stands: in its script, with its table's words; what it has come to; and what is counted
pub record Book : Type 0 where
  pub replay : Replay
  pub room : List ℕ
  pub stage : Stage
  pub figures : Figures

-- ---- one sample more

abbrev pub one_more : ℕ → ℕ
one_more n = (n + 1) % 2 ^ 64

-- one that has no record, as the code counts it
abbrev pub missed_one : Counts → ℕ → Counts
missed_one c looked =
    record { samples = one_more c.samples; missing = one_more c.missing; buckets = (c.buckets + looked) % 2 ^ 64; tally = c.tally }

abbrev pub figures_with : Figures → Query → Figures
figures_with x (Ok a) =
    record {
      samples = one_more x.samples;
      missing = x.missing;
      credits = credited a.what.function x.credits;
      buckets = (x.buckets + a.looked) % 2 ^ 64;
    }
figures_with x (Err a) =
    record { samples = one_more x.samples; missing = one_more x.missing; credits = x.credits; buckets = (x.buckets + a.looked) % 2 ^ 64 }

abbrev pub in_stage : Stage → Book → Book
in_stage s b = record { replay = b.replay; room = b.room; stage = s; figures = b.figures }

unfoldable pub sampled : ℕ → Book → Book
sampled key b =
    record {
      replay = b.replay;
      room = b.room;
      stage = Samples;
      figures = figures_with b.figures (query_result (table_of b.replay b.room) key);
    }

abbrev pub spoilt : Book → Book
spoilt b = in_stage (Bad (line_behind b.replay.script.lines b.figures.samples)) b

-- ---- recovery, before the first sample

abbrev pub stage_recovered : Answer → Stage
stage_recovered (Changed (Err e)) = Unrecovered e
stage_recovered (Changed (Ok n)) = Samples
stage_recovered Nothing = Samples
stage_recovered (Created v) = Samples
stage_recovered (Kept r n) = Samples
stage_recovered (Found q) = Samples
stage_recovered (Events n) = Samples
stage_recovered (BadAnswer n) = Samples

unfoldable pub recovered_book : Book → Book
recovered_book b =
    let t = asked_of b.room b.replay b.replay.script (ask_event Recover no_cut) in
    record { replay = t.replay; room = t.room; stage = stage_recovered t.answer; figures = b.figures }

abbrev pub when_recovered : Stage → ℕ → Book → Book
when_recovered Samples key b = sampled key b
when_recovered Script key b = b
when_recovered (Unmade e) key b = b
when_recovered (Unrecovered e) key b = b
when_recovered (Bad n) key b = b

unfoldable pub first_sampled : ℕ → Book → Book
first_sampled key b = let r = recovered_book b in when_recovered r.stage key r

-- ---- a line

abbrev pub stage_after : Answer → Stage
stage_after (Created (Err e)) = Unmade e
stage_after (Created (Ok tt)) = Script
stage_after (BadAnswer n) = Bad n
stage_after Nothing = Script
stage_after (Changed r) = Script
stage_after (Kept r n) = Script
stage_after (Found q) = Script
stage_after (Events n) = Script

unfoldable pub script_line : List ℕ → Book → Book
script_line line b =
    let t = turn_of b.room b.replay (line_of line) in
    record { replay = t.replay; room = t.room; stage = stage_after t.answer; figures = b.figures }

-- what a line says where a sample may stand, and where not
abbrev pub sample_where : Bool → List ℕ → Sample
sample_where true line = sample_of line
sample_where false line = Other

abbrev pub first_said : Sample → List ℕ → Book → Book
first_said (Key key) line b = first_sampled key b
first_said BadSample line b = spoilt b
first_said Other line b = script_line line b

abbrev pub later_said : Sample → Book → Book
later_said (Key key) b = sampled key b
later_said BadSample b = spoilt b
later_said Other b = spoilt b

unfoldable pub script_read : List ℕ → Book → Book
script_read line b = first_said (sample_where (event_due b.replay.script) line) line b

unfoldable pub sample_read : List ℕ → Book → Book
sample_read line b = later_said (sample_of line) b

abbrev pub line_at : Stage → List ℕ → Book → Book
line_at Script line b = script_read line b
line_at Samples line b = sample_read line b
line_at (Unmade e) line b = b
line_at (Unrecovered e) line b = b
line_at (Bad n) line b = b

unfoldable pub with_line : List ℕ → Book → Book
with_line line b = line_at b.stage line b

-- ---- the end

abbrev pub script_end : Answer → Book → Book
script_end (BadAnswer n) b = in_stage (Bad n) b
script_end Nothing b = recovered_book b
script_end (Created v) b = recovered_book b
script_end (Changed r) b = recovered_book b
script_end (Kept r n) b = recovered_book b
script_end (Found q) b = recovered_book b
script_end (Events n) b = recovered_book b

abbrev pub end_at : Stage → Bool → Book → Book
end_at Script torn b = script_end (finish_of b.replay torn) b
end_at Samples torn b = cond torn (spoilt b) b
end_at (Unmade e) torn b = b
end_at (Unrecovered e) torn b = b
end_at (Bad n) torn b = b

unfoldable pub at_end : Bool → Book → Book
at_end torn b = end_at b.stage torn b

-- ---- the report

abbrev pub report_at : Stage → Figures → Report
report_at Script x = counts x
report_at Samples x = counts x
report_at (Unmade e) x = unmade e
report_at (Unrecovered e) x = unrecovered e
report_at (Bad n) x = bad_line n

unfoldable pub report_in : Book → Report
report_in b = report_at b.stage b.figures

abbrev pub report_behind : Book → List (List ℕ) → Bool → Report
report_behind b [] torn = report_in (at_end torn b)
report_behind b (l ∷ ls) torn = report_behind (with_line l b) ls torn

-- nothing more is read
abbrev pub known_at : Stage → Bool
known_at Script = false
known_at Samples = false
known_at (Unmade e) = true
known_at (Unrecovered e) = true
known_at (Bad n) = true

-- before the first line
abbrev pub no_figures : Figures
no_figures = record { samples = 0; missing = 0; credits = record { functions = []; samples = []; other = 0 }; buckets = 0 }

abbrev pub empty_book : List ℕ → Book
empty_book room = record { replay = begun; room = room; stage = Script; figures = no_figures }

-- line by line it is the report of `Ledgers`
abbrev pub ReportsAreOne : Type 0
ReportsAreOne = (room : List ℕ) (ls : List (List ℕ)) (torn : Bool) → report_behind (empty_book room) ls torn ≡ report_of room ls torn

-- ---- what the code promises

abbrev pub figures_in : Counts → Figures
figures_in c = record { samples = c.samples; missing = c.missing; credits = c.tally; buckets = c.buckets }

-- a ledger, with the words that are lent for its table
abbrev pub book_of : Ledger → List ℕ → Book
book_of l room = record { replay = l.replay; room = room; stage = l.stage; figures = figures_in l.counts }

-- the counts are x
abbrev pub CountsAre : Figures → Counts → Type 0
CountsAre x c = figures_in c ≡ x

-- the ledger is b
abbrev pub LedgerIs : Book → Ledger → List ℕ → Type 0
LedgerIs b l room = book_of l room ≡ b

-- what is done to a book with replay p, words room, stage s and figures x leaves q, left, r and the same figures
abbrev pub Leads : (Book → Book) → Replay → List ℕ → Stage → Figures → Replay → List ℕ → Stage → Type 0
Leads g p room s x q left r =
    ◌≡◌ {A = Book} (record { replay = q; room = left; stage = r; figures = x }) (g (record { replay = p; room = room; stage = s; figures = x }))

-- what is done to a ledger on these words, which leaves those, and changes no count
pub record Turned (g : Book → Book) (l : Ledger) (room : List ℕ) (r : Ledger) (left : List ℕ) : Type 0 where
  pub book : LedgerIs (g (book_of l room)) r left
  pub counts : r.counts ≡ l.counts
