-- Request d), "The sample ledger.": what is reported of an input's lines.
-- Assumes nothing.
use Rattle.std.specs.Prelude.{ℕ, ◌+◌, ◌%◌, ◌^◌, Bool, true, false, cond, List, [], ◌∷◌, ◌++◌, length, ◌==◌}
use Rattle.std.proofs.Math.Option.{Option, none, some}
use Rattle.rules.specs.Choice.{all}
use Rattle.rules.specs.Words.{Table}
use Rattle.rules.specs.Soundness.{PlainMap, map_of}
use Rattle.rules.specs.Results.{query_result}
use Rattle.rules.specs.Demands.{count_of}
use Rattle.rules.specs.declared.ScriptCall.TheVariants.{Recover}
use Rattle.rules.specs.declared.Record.{Record}
use Rattle.rules.specs.declared.Refusal.{Refusal}
use Rattle.std.specs.Prelude.{Ok, Err}
use Rattle.tallying.specs.Credits.{Credits, credits_of}
use Rattle.lines.specs.Lines.{line_of}
use Rattle.lines.specs.Samples.{sample_of}
use Rattle.lines.specs.declared.Sample.{Sample}
use Rattle.lines.specs.declared.Sample.TheVariants.{Key, Bad as BadSample, Other}
use Rattle.following.specs.declared.Due.{Due}
use Rattle.following.specs.declared.Due.TheVariants.{Number as a_number, Event as an_event, Nothing as no_more}
use Rattle.following.specs.Scripts.{Under}
use Rattle.std.specs.Prelude.{Some, None as no_cut}
use Rattle.following.specs.declared.Script.{Script}
use Rattle.replaying.specs.Events.{answer_to, table_after}
use Rattle.replaying.specs.Replays.{begun, table_of, turn_of, finish_of}
use Rattle.replaying.specs.declared.Answer.{Answer}
use Rattle.replaying.specs.declared.Answer.TheVariants.{Nothing, Created, Changed, Kept, Found, Events, Bad}
use Rattle.replaying.specs.declared.Replay.{Replay}

-- ---- the counts, from the samples' keys and the final map

-- the sum of a number for each key
abbrev pub sum_of : (ℕ → ℕ) → List ℕ → ℕ
sum_of number [] = 0
sum_of number (key ∷ keys) = number key + sum_of number keys

-- "samples with no record"
abbrev pub without_record : Option Record → ℕ
without_record none = 1
without_record (some r) = 0

abbrev pub none_in : PlainMap → List ℕ → ℕ
none_in m keys = sum_of (λ (key : ℕ). without_record (m key)) keys

-- "A function is named by a sample whose key has a record; "input order" is the order of those samples"
abbrev pub function_of : Option Record → List ℕ
function_of none = []
function_of (some r) = r.function ∷ []

abbrev pub named_in : PlainMap → List ℕ → List ℕ
named_in m [] = []
named_in m (key ∷ keys) = function_of (m key) ++ named_in m keys

-- "buckets looked at in all": "the sum of the queries' counts"
abbrev pub buckets_in : (ℕ → ℕ) → List ℕ → ℕ
buckets_in looked keys = sum_of looked keys

-- "samples, samples with no record, samples for each function named, and buckets looked at in all". "Counts are whole numbers below 2^64"
pub record Figures : Type 0 where
  pub samples : ℕ
  pub missing : ℕ
  pub credits : Credits
  pub buckets : ℕ

unfoldable pub figures_of : PlainMap → (ℕ → ℕ) → List ℕ → Figures
figures_of m looked keys =
    record {
      samples = length keys % 2 ^ 64;
      missing = none_in m keys % 2 ^ 64;
      credits = credits_of (named_in m keys);
      buckets = buckets_in looked keys % 2 ^ 64;
    }

-- ---- what is reported: the counts, or why there are none

pub data Report : Type 0 where
  unmade : Refusal → Report
  unrecovered : Refusal → Report
  bad_line : ℕ → Report
  counts : Figures → Report

-- ---- the sample lines

-- the keys of the samples before the first bad line
abbrev pub key_before : Sample → List ℕ → List ℕ
key_before (Key key) keys = key ∷ keys
key_before BadSample keys = []
key_before Other keys = []

abbrev pub keys_in : List (List ℕ) → List ℕ
keys_in [] = []
keys_in (l ∷ ls) = key_before (sample_of l) (keys_in ls)

-- "from there on every line is a sample line, and any other is bad", and so is a line that no newline ends
abbrev pub all_good : List (List ℕ) → Bool → Bool
all_good ls true = false
all_good ls false = length (keys_in ls) == length ls

-- the line behind so many lines and samples
abbrev pub line_behind : ℕ → ℕ → ℕ
line_behind lines samples = (lines + samples + 1) % 2 ^ 64

-- "The table is recovered before the first sample; if that is refused, `answer=12` is the whole report"
abbrev pub once_recovered : Answer → Report → Report
once_recovered (Changed (Err e)) report = unrecovered e
once_recovered (Changed (Ok n)) report = report
once_recovered Nothing report = report
once_recovered (Created v) report = report
once_recovered (Kept r n) report = report
once_recovered (Found q) report = report
once_recovered (Events n) report = report
once_recovered (Bad n) report = report

-- "when the first good sample line has been read, or the input has ended": a bad first sample line comes before both
abbrev pub no_sample_yet : List ℕ → Bool
no_sample_yet [] = true
no_sample_yet (key ∷ keys) = false

unfoldable pub samples_report : Table → ℕ → List (List ℕ) → Bool → Report
samples_report t lines ls torn =
    let keys = keys_in ls in
    let u = table_after t Recover no_cut in
    let bad = bad_line (line_behind lines (length keys)) in
    let whole = counts (figures_of (map_of u) (λ (key : ℕ). count_of (query_result u key)) keys) in
    cond (all_good ls torn) (once_recovered (answer_to t Recover no_cut) whole)
    (cond (no_sample_yet keys) bad (once_recovered (answer_to t Recover no_cut) bad))

-- ---- the script before them

-- "The sample lines begin at the first line that starts with `sample=` where an event line could stand"; "Behind a cut line it may not stand"
abbrev pub event_at : Due → Under → Bool
event_at an_event no_cut = true
event_at an_event (Some cut) = false
event_at (a_number name) under = false
event_at no_more under = false

abbrev pub event_due : Script → Bool
event_due s = event_at s.due s.cut

abbrev pub starts_sample : Sample → Bool
starts_sample (Key key) = true
starts_sample BadSample = true
starts_sample Other = false

abbrev pub samples_begin : Replay → List ℕ → Bool
samples_begin p line = all (event_due p.script ∷ starts_sample (sample_of line) ∷ [])

-- "Script answers are not printed; `bad=` or `made=13` end it."
abbrev pub unless_ended : Answer → Report → Report
unless_ended (Created (Err e)) report = unmade e
unless_ended (Created (Ok tt)) report = report
unless_ended (Bad n) report = bad_line n
unless_ended Nothing report = report
unless_ended (Changed r) report = report
unless_ended (Kept r n) report = report
unless_ended (Found q) report = report
unless_ended (Events n) report = report

abbrev pub report_from : List ℕ → Replay → List (List ℕ) → Bool → Report
report_from room p [] torn = unless_ended (finish_of p torn) (samples_report (table_of p room) p.script.lines [] false)
report_from room p (l ∷ ls) torn =
    let t = turn_of room p (line_of l) in
    cond (samples_begin p l) (samples_report (table_of p room) p.script.lines (l ∷ ls) torn)
    (unless_ended t.answer (report_from t.room t.replay ls torn))

-- the ended lines of an input, and whether a torn one follows, on lent words
unfoldable pub report_of : List ℕ → List (List ℕ) → Bool → Report
report_of room ls torn = report_from room begun ls torn
