-- The definitions of the ledger keep the request's sentences.
-- Assumes nothing.
use Rattle.std.proofs.Common.{◌≡◌, ℕ, suc, ◌+◌, ◌^◌, ◌<◌, ◌≤◌, Bool, true, false, cond, List, [], ◌∷◌, ◌++◌, map, length, sym, refl, ap, ◌∙◌, append_assoc, append-nil, arith, length-append, eq-eqb, ne_eqb}
use mathlib.Core.Option.{Option, none, some}
use Rattle.rules.specs.Choice.{all}
use Rattle.rules.specs.Words.{Table, word}
use Rattle.rules.specs.Soundness.{PlainMap, map_of}
use Rattle.rules.specs.Calls.{recover}
use Rattle.rules.specs.Results.{change_result, query_result}
use Rattle.rules.specs.Answers.{query_means}
use Rattle.rules.specs.SpotSentences.{word_told}
use Rattle.rules.specs.Histories.{Accepted}
use Rattle.rules.specs.declared.ScriptCall.TheVariants.{Recover}
use Rattle.rules.specs.Answers.{Change}
use Rattle.std.specs.Prelude.{Ok, Err}
use Rattle.rules.specs.declared.Record.{Record}
use Rattle.rules.specs.declared.Refusal.{Refusal}
use Rattle.rules.specs.Answers.{Query}
use Rattle.rules.proofs.Tables.Maps.{sound-map}
use Rattle.rules.proofs.Calls.Meanings.{number_not_zero}
use Rattle.rules.proofs.Calls.Spots.{told_there}
use Rattle.rules.proofs.Cutting.Restoring.{recovery_restores}
use Rattle.tallying.specs.Credits.{credited}
use Rattle.tallying.specs.Sentences.{total}
use Rattle.tallying.proofs.Sentences.{all_samples_count}
use Rattle.lines.specs.Lines.{line_of}
use Rattle.lines.specs.Samples.{sample_of, sample_text}
use Rattle.lines.specs.declared.Sample.{Sample}
use Rattle.lines.specs.declared.Sample.TheVariants.{Key, Bad as BadSample, Other}
use Rattle.lines.proofs.Samples.{sample_texts_say}
use Rattle.following.specs.Scripts.{ending_of}
use Rattle.following.specs.Sentences.{EventDue}
use Rattle.following.specs.declared.Due.{Due}
use Rattle.following.specs.declared.Due.TheVariants.{Number as a_number, Event as an_event, Nothing as no_more}
use Rattle.following.specs.Scripts.{Under}
use Rattle.std.specs.Prelude.{Some, None as no_cut}
use Rattle.following.specs.declared.Script.{Script}
use Rattle.replaying.specs.Events.{lent, answer_to, table_after}
use Rattle.replaying.specs.Replays.{begun, table_of, turn_of, finish_of}
use Rattle.replaying.specs.Sentences.{GoesOn}
use Rattle.replaying.specs.declared.Answer.{Answer}
use Rattle.replaying.specs.declared.Answer.TheVariants.{Nothing, Created, Changed, Kept, Found, Events, Bad}
use Rattle.replaying.specs.declared.Replay.{Replay}
use Rattle.crediting.specs.Ledgers.{sum_of, without_record, none_in, function_of, named_in, Figures, figures_of, Report, unmade}
use Rattle.crediting.specs.Ledgers.{unrecovered, bad_line, counts}
use Rattle.crediting.specs.Ledgers.{keys_in, all_good, line_behind, once_recovered, no_sample_yet, samples_report, event_at, event_due, starts_sample}
use Rattle.crediting.specs.Ledgers.{samples_begin, unless_ended, report_from, report_of}
use Rattle.crediting.specs.Sentences.{NoSample, Read, nothing, line, BadLinesEnd, BadEnd, RefusedTablesEnd, final_table}
use Rattle.crediting.specs.Sentences.{FinalMap, UnrecoveredEnds, UnrecoveredAtEnd, Words, final_figures, number_behind, SamplesReported}
use Rattle.crediting.specs.Sentences.{OtherLinesEnd, TornSamplesEnd, BadFirstSampleEnds, EndsAreKnown, CountsExact, MissingCounted}
use Rattle.crediting.specs.Sentences.{NamedInOrder, BucketsAdded, CreditsStood, SumIsSamples}
use Rattle.crediting.specs.Books.{figures_with, report_at, report_in, known_at}
use Rattle.crediting.specs.declared.Stage.{Stage}
use Rattle.crediting.specs.declared.Stage.TheVariants.{Script as InScript, Samples, Unmade, Unrecovered, Bad as BadStage}
use Rattle.crediting.proofs.Figures.{looked_in}
use Rattle.crediting.proofs.Counting.{lines_counted}
use Rattle.crediting.proofs.Whole.{false_true, either_way}

-- ---- where the samples begin

due-means : (s : Script) → event_due s ≡ true → EventDue s
due-means s e = let both = go s.due s.cut e in record { due = both.0; cut = both.1 }
  where
    go : (d : Due) (c : Under) → event_at d c ≡ true → (d ≡ an_event) × (c ≡ no_cut)
    go an_event no_cut k = (refl, refl)
    go an_event (Some under) k = false_true k
    go (a_number name) c k = false_true k
    go no_more c k = false_true k

due-told : (s : Script) → EventDue s → event_due s ≡ true
due-told s d = rw (d.due, d.cut)

no_samples : (p : Replay) (l : List ℕ) → NoSample p l → samples_begin p l ≡ false
no_samples p l n = go (event_due p.script) refl
  where
    go : (b : Bool) → event_due p.script ≡ b → all (b ∷ starts_sample (sample_of l) ∷ []) ≡ false
    go true e = rw (n (due-means p.script e))
    go false e = refl

samples-begin : (p : Replay) (l : List ℕ) → EventDue p.script → starts_sample (sample_of l) ≡ true → samples_begin p l ≡ true
samples-begin p l d s = rw (due-told p.script d, s)

-- ---- the script's lines

unended : (a : Answer) → GoesOn a → (r : Report) → unless_ended a r ≡ r
unended (Created (Err e)) g r = absurd (g.made e refl)
unended (Created (Ok tt)) g r = refl
unended (Bad n) g r = absurd (g.good n refl)
unended Nothing g r = refl
unended (Changed x) g r = refl
unended (Kept x n) g r = refl
unended (Found q) g r = refl
unended (Events n) g r = refl

script-read : {room left : List ℕ} {p q : Replay} {ls : List (List ℕ)} → Read room p ls left q → (later : List (List ℕ)) (torn : Bool)
    → report_from room p (ls ++ later) torn ≡ report_from left q later torn
script-read nothing later torn = refl
script-read (line {room} {p = p} {l = l} n g rest) later torn =
    rw (no_samples p l n) (unended (turn_of room p (line_of l)).answer g _ ∙ script-read rest later torn)

module _ (room left : List ℕ) (ls : List (List ℕ)) (p : Replay) (read : Read room begun ls left p) where
  behind : (later : List (List ℕ)) (torn : Bool) → report_of room (ls ++ later) torn ≡ report_from left p later torn
  unfolding report_of
  behind later torn = script-read read later torn

  at_end_lem : (torn : Bool) → report_of room ls torn ≡ report_from left p [] torn
  at_end_lem torn = ap (λ (x : List (List ℕ)). report_of room x torn) (sym (append-nil ls)) ∙ behind [] torn

  line-behind : (l : List ℕ) → NoSample p l → (later : List (List ℕ)) (torn : Bool)
      → report_of room (ls ++ (l ∷ later)) torn ≡ unless_ended (turn_of left p (line_of l)).answer
      (report_from (turn_of left p (line_of l)).room (turn_of left p (line_of l)).replay later torn)
  line-behind l n later torn = behind (l ∷ later) torn ∙ rw (no_samples p l n)

pub bad_lines_end : BadLinesEnd
bad_lines_end room left ls p read l other n e later torn = line-behind room left ls p read l other later torn ∙ rw e

pub refused_tables_end : RefusedTablesEnd
refused_tables_end room left ls p read l other e k later torn = line-behind room left ls p read l other later torn ∙ rw k

pub bad_end : BadEnd
bad_end room left ls p read torn n e = at_end_lem room left ls p read torn ∙ rw e

-- ---- recovery

accepted : {n : ℕ} (r : Change) → r ≡ Ok n → Accepted r
accepted (Ok m) k = tt
accepted (Err e) k = let z : ◌≡◌ {A = ℕ} 0 1 = cc in absurd (omega arith)

pub final_map : FinalMap
final_map p left a =
    let s = recovery_restores (table_of p left) lent (accepted _ a.1) in
    (s, sound-map (final_table p left) s)

-- the report of samples, by what recovery answers
report_by : Change → Report → List ℕ → Bool → ℕ → Report
report_by r whole keys good n =
    cond good (once_recovered (Changed r) whole) (cond (no_sample_yet keys) (bad_line (line_behind n (length keys))) (once_recovered (Changed r)
    (bad_line (line_behind n (length keys)))))

module _ (left : List ℕ) (p : Replay) where
  samples_by : (ls : List (List ℕ)) (torn : Bool) → samples_report (table_of p left) p.script.lines ls torn
      ≡ report_by (change_result (table_of p left) lent recover).0 (counts (final_figures p left (keys_in ls))) (keys_in ls)
      (all_good ls torn) p.script.lines
  unfolding samples_report report_by answer_to table_after
  samples_by ls torn = refl

  first_sample : EventDue p.script → (l : List ℕ) (later : List (List ℕ)) (torn : Bool) → starts_sample (sample_of l) ≡ true
      → report_from left p (l ∷ later) torn ≡ samples_report (table_of p left) p.script.lines (l ∷ later) torn
  first_sample d l later torn s = rw (samples-begin p l d s)

  no_sample : EventDue p.script → report_from left p [] false ≡ samples_report (table_of p left) p.script.lines [] false
  unfolding finish_of ending_of
  no_sample d = rw (d.due, d.cut)

text_starts : (key : ℕ) → key < 2 ^ 64 → starts_sample (sample_of (sample_text key)) ≡ true
text_starts key k = rw (sample_texts_say key k)

pub unrecovered_ends : UnrecoveredEnds
unfolding report_by
unrecovered_ends room left ls p ready e k key word later torn =
    let more : keys_in (sample_text key ∷ later) ≡ key ∷ keys_in later = rw (sample_texts_say key word) in
    behind room left ls p ready.read (sample_text key ∷ later) torn
    ∙ first_sample left p ready.due (sample_text key) later torn (text_starts key word)
    ∙ samples_by left p (sample_text key ∷ later) torn
    ∙ rw (k, more) (either_way (all_good (sample_text key ∷ later) torn) (unrecovered e))

pub unrecovered_at_end : UnrecoveredAtEnd
unfolding report_by
unrecovered_at_end room left ls p ready e k =
    at_end_lem room left ls p ready.read false ∙ no_sample left p ready.due ∙ samples_by left p [] false ∙ rw k

-- ---- the samples

keys_read : (keys : List ℕ) → Words keys → keys_in (map sample_text keys) ≡ keys
keys_read [] w = refl
keys_read (key ∷ keys) w = rw (sample_texts_say key w.0) (ap (λ (ks : List ℕ). key ∷ ks) (keys_read keys w.1))

texts-long : (keys : List ℕ) → length (map sample_text keys) ≡ length keys
texts-long [] = refl
texts-long (key ∷ keys) = ap suc (texts-long keys)

all-good : (keys : List ℕ) → Words keys → all_good (map sample_text keys) false ≡ true
all-good keys w = eq-eqb (length (keys_in (map sample_text keys))) (length (map sample_text keys)) (ap length (keys_read keys w) ∙ sym (texts-long keys))

pub samples_reported : SamplesReported
unfolding report_by
samples_reported room left ls p ready a [] w =
    ap (λ (x : List (List ℕ)). report_of room x false) (append-nil ls) ∙ at_end_lem room left ls p ready.read false ∙ no_sample left p ready.due
    ∙ samples_by left p [] false ∙ rw a.1
samples_reported room left ls p ready a (key ∷ keys) w =
    behind room left ls p ready.read (map sample_text (key ∷ keys)) false
    ∙ first_sample left p ready.due (sample_text key) (map sample_text keys) false (text_starts key w.0)
    ∙ samples_by left p (map sample_text (key ∷ keys)) false
    ∙ rw (a.1, all-good (key ∷ keys) w, keys_read (key ∷ keys) w)

-- the line that is told
told-behind : (room left : List ℕ) (ls : List (List ℕ)) (p : Replay) → Read room begun ls left p → (keys : List ℕ)
    → line_behind p.script.lines (length keys) ≡ number_behind ls keys
told-behind room left ls p read keys = omega (arith, lines_counted room left ls p read)

-- keys up to a line that says none
module _ (l : List ℕ) (no_key : (k : ℕ) → sample_of l ≡ Key k → ⊥) (later : List (List ℕ)) where
  none_read : keys_in (l ∷ later) ≡ []
  none_read = go (sample_of l) refl
    where
      go : (s : Sample) → sample_of l ≡ s → keys_in (l ∷ later) ≡ []
      go (Key k) e = absurd (no_key k e)
      go BadSample e = rw e
      go Other e = rw e

  keys_until : (keys : List ℕ) → Words keys → keys_in (map sample_text keys ++ (l ∷ later)) ≡ keys
  keys_until [] w = none_read
  keys_until (key ∷ keys) w = rw (sample_texts_say key w.0) (ap (λ (ks : List ℕ). key ∷ ks) (keys_until keys w.1))

  not_good : (keys : List ℕ) → Words keys → (torn : Bool) → all_good (map sample_text keys ++ (l ∷ later)) torn ≡ false
  not_good keys w true = refl
  not_good keys w false =
      let lines = map sample_text keys ++ (l ∷ later) in
      let long = length-append (map sample_text keys) (l ∷ later) in
      ne_eqb (length (keys_in lines)) (length lines) (λ e. omega (arith, e, ap length (keys_until keys w), long, texts-long keys))

pub other_lines_end : OtherLinesEnd
unfolding report_by
other_lines_end room left ls p ready a key keys w l no_key later torn =
    let lines = map sample_text (key ∷ keys) ++ (l ∷ later) in
    behind room left ls p ready.read lines torn
    ∙ first_sample left p ready.due (sample_text key) (map sample_text keys ++ (l ∷ later)) torn (text_starts key w.0)
    ∙ samples_by left p lines torn
    ∙ rw (a.1, not_good l no_key later (key ∷ keys) w torn, keys_until l no_key later (key ∷ keys) w)
    (ap bad_line (told-behind room left ls p ready.read
    (key ∷ keys)))

pub torn_samples_end : TornSamplesEnd
unfolding report_by
torn_samples_end room left ls p ready a key keys w =
    behind room left ls p ready.read (map sample_text (key ∷ keys)) true
    ∙ first_sample left p ready.due (sample_text key) (map sample_text keys) true (text_starts key w.0)
    ∙ samples_by left p (map sample_text (key ∷ keys)) true
    ∙ rw (a.1, keys_read (key ∷ keys) w) (ap bad_line (told-behind room left ls p ready.read (key ∷ keys)))

pub bad_first_sample_ends : BadFirstSampleEnds
unfolding report_by
bad_first_sample_ends room left ls p ready l e later torn =
    let no_key : (k : ℕ) → sample_of l ≡ Key k → ⊥ = λ k f. never (sym e ∙ f) in
    behind room left ls p ready.read (l ∷ later) torn
    ∙ first_sample left p ready.due l later torn (rw e)
    ∙ samples_by left p (l ∷ later) torn
    ∙ rw (not_good l no_key later [] tt torn, none_read l no_key later) (ap bad_line (told-behind room left ls p ready.read []))
  where
    never : {k : ℕ} → BadSample ≡ Key k → ⊥
    never f = let z : ◌≡◌ {A = ℕ} 0 1 = cc in omega arith

-- ---- counts are no end

module _ (x : Figures) where
  not_bad : {A : Type 0} {n : ℕ} → bad_line n ≡ counts x → A
  not_bad e = let z : ◌≡◌ {A = ℕ} 0 1 = cc in absurd (omega arith)

  not_unrecovered : {A : Type 0} {e : Refusal} → unrecovered e ≡ counts x → A
  not_unrecovered e = let z : ◌≡◌ {A = ℕ} 0 1 = cc in absurd (omega arith)

  not_unmade : {A : Type 0} {e : Refusal} → unmade e ≡ counts x → A
  not_unmade e = let z : ◌≡◌ {A = ℕ} 0 1 = cc in absurd (omega arith)

-- ---- where nothing more is read

pub ends_are_known : EndsAreKnown
unfolding report_in
ends_are_known b = go b.stage
  where
    Known : Stage → Type 0
    Known s = ((n : ℕ) → report_at s b.figures ≡ bad_line n → known_at s ≡ true)
        × ((e : Refusal) → report_at s b.figures ≡ unmade e → known_at s ≡ true)
        × ((e : Refusal) → report_at s b.figures ≡ unrecovered e → known_at s ≡ true)

    still : Known Samples
    still = (λ n e. not_bad b.figures (sym e), λ k e. not_unmade b.figures (sym e), λ k e. not_unrecovered b.figures (sym e))

    go : (s : Stage) → Known s
    go InScript = still
    go Samples = still
    go (Unmade e) = (λ n k. refl, λ f k. refl, λ f k. refl)
    go (Unrecovered e) = (λ n k. refl, λ f k. refl, λ f k. refl)
    go (BadStage n) = (λ m k. refl, λ f k. refl, λ f k. refl)

-- ---- what each sample adds

sum_between : (number : ℕ → ℕ) (before behind : List ℕ) (key : ℕ) → sum_of number (before ++ (key ∷ behind))
    ≡ sum_of number (before ++ behind) + number key
sum_between number [] behind key = omega arith
sum_between number (k ∷ before) behind key = omega (arith, sum_between number before behind key)

pub buckets_added : BucketsAdded
buckets_added looked before behind key = (refl, sum_between looked before behind key)

pub missing_counted : MissingCounted
missing_counted m before behind key =
    let sum = sum_between (λ (k : ℕ). without_record (m k)) before behind key in
    (refl, λ e. sum ∙ rw e, λ r e. sum ∙ rw e (omega arith))

named-after : (m : PlainMap) (before behind : List ℕ) → named_in m (before ++ behind) ≡ named_in m before ++ named_in m behind
named-after m [] behind = refl
named-after m (k ∷ before) behind =
    ap (λ (rest : List ℕ). function_of (m k) ++ rest) (named-after m before behind) ∙ sym (append_assoc (function_of (m k)) _ _)

pub named_in_order : NamedInOrder
named_in_order m before behind key = (refl, λ e. named-after m before (key ∷ behind) ∙ rw e, λ r e. named-after m before (key ∷ behind) ∙ rw e)

pub counts_exact : CountsExact
unfolding figures_of
counts_exact m looked keys = (λ few. omega arith, λ few. omega arith, λ few. omega arith)

-- ---- the total

-- a sample names a function, or its key has no record
named_or_missing : (m : PlainMap) (keys : List ℕ) → length (named_in m keys) + none_in m keys ≡ length keys
named_or_missing m [] = refl
named_or_missing m (key ∷ keys) = go (m key) (named_or_missing m keys)
  where
    go : (o : Option Record) → length (named_in m keys) + none_in m keys ≡ length keys
        → length (function_of o ++ named_in m keys) + (without_record o + none_in m keys) ≡ suc (length keys)
    go none e = omega (arith, e)
    go (some r) e = omega (arith, e)

figures_sum : (m : PlainMap) (looked : ℕ → ℕ) (keys : List ℕ) → length keys < 2 ^ 64
    → total (figures_of m looked keys).credits.samples + (figures_of m looked keys).credits.other + (figures_of m looked keys).missing
    ≡ (figures_of m looked keys).samples
unfolding figures_of
figures_sum m looked keys few =
    let whole = named_or_missing m keys in
    let credits = all_samples_count (named_in m keys) (omega (arith, whole)) in
    omega (arith, whole, credits)

-- counts that are reported are those of some keys, no more than there are lines
record Counted (x : Figures) (n : ℕ) : Type 0 where
  the_map : PlainMap
  looked : ℕ → ℕ
  keys : List ℕ
  figures : figures_of the_map looked keys ≡ x
  few : length keys ≤ n

keys_few : (ls : List (List ℕ)) → length (keys_in ls) ≤ length ls
keys_few [] = omega arith
keys_few (l ∷ ls) = go (sample_of l) refl (keys_few ls)
  where
    go : (s : Sample) → sample_of l ≡ s → length (keys_in ls) ≤ length ls → length (keys_in (l ∷ ls)) ≤ length (l ∷ ls)
    go (Key key) e f = rw e (omega (arith, f))
    go BadSample e f = rw e (omega arith)
    go Other e f = rw e (omega arith)

module _ (x : Figures) where
  once : (a : Answer) (r : Report) → once_recovered a r ≡ counts x → r ≡ counts x
  once (Changed (Err e)) r k = not_unrecovered x k
  once (Changed (Ok n)) r k = k
  once Nothing r k = k
  once (Created v) r k = k
  once (Kept c n) r k = k
  once (Found q) r k = k
  once (Events n) r k = k
  once (Bad n) r k = k

  unless : (a : Answer) (r : Report) → unless_ended a r ≡ counts x → r ≡ counts x
  unless (Created (Err e)) r k = not_unmade x k
  unless (Created (Ok tt)) r k = k
  unless (Bad n) r k = not_bad x k
  unless Nothing r k = k
  unless (Changed c) r k = k
  unless (Kept c n) r k = k
  unless (Found q) r k = k
  unless (Events n) r k = k

  samples-counted : (t : Table) (n : ℕ) (ls : List (List ℕ)) (torn : Bool) → samples_report t n ls torn ≡ counts x → Counted x (length ls)
  unfolding samples_report
  samples-counted t n ls torn e = record { the_map = map_of u; looked = looked_in u; keys = keys_in ls; figures = figures_are; few = keys_few ls }
    where
      u : Table
      u = table_after t Recover no_cut

      y : Figures
      y = figures_of (map_of u) (looked_in u) (keys_in ls)

      same : counts y ≡ counts x → y ≡ x
      same k = cc

      a : Answer
      a = answer_to t Recover no_cut

      bad : Report
      bad = bad_line (line_behind n (length (keys_in ls)))

      go : (good yet : Bool) → cond good (once_recovered a (counts y)) (cond yet bad (once_recovered a bad)) ≡ counts x → y ≡ x
      go true yet k = same (once a (counts y) k)
      go false true k = not_bad x k
      go false false k = not_bad x (once a bad k)

      figures_are : y ≡ x
      figures_are = go (all_good ls torn) (no_sample_yet (keys_in ls)) e

  report_counted : (ls : List (List ℕ)) (torn : Bool) (room : List ℕ) (p : Replay) → report_from room p ls torn ≡ counts x → Counted x (length ls)
  report_counted [] torn room p e = samples-counted (table_of p room) p.script.lines [] false (unless (finish_of p torn) _ e)
  report_counted (l ∷ ls) torn room p e =
      go (samples_begin p l) (λ k. samples-counted (table_of p room) p.script.lines (l ∷ ls) torn k) (λ k. longer (report_counted ls torn _ _
      (unless (turn_of room p (line_of l)).answer _ k))) e
    where
      longer : Counted x (length ls) → Counted x (length (l ∷ ls))
      longer c = record { the_map = c.the_map; looked = c.looked; keys = c.keys; figures = c.figures; few = omega (arith, c.few) }

      go : (b : Bool) {r q : Report} → (r ≡ counts x → Counted x (length (l ∷ ls)))
          → (q ≡ counts x → Counted x (length (l ∷ ls))) → cond b r q ≡ counts x
          → Counted x (length (l ∷ ls))
      go true f g k = f k
      go false f g k = g k

pub sum_is_samples : SumIsSamples
unfolding report_of
sum_is_samples room ls torn x few e =
    let c = report_counted x ls torn room begun e in
    rw (← c.figures) (figures_sum c.the_map c.looked c.keys (omega (arith, c.few, few)))

-- ---- where a credit comes from

pub credits_stood : CreditsStood
credits_stood x t key z = go (query_result t key) refl
  where
    go : (q : Query) → query_result t key ≡ q → (figures_with x (query_result t key)).credits ≡ credited (word t (word_told t key + 1)) x.credits
    go (Ok a) e =
        ap (λ (q : Query). (figures_with x q).credits) e ∙ ap (λ (f : ℕ). credited f x.credits) (told_there t key a.what (a.spot, a.looked, e)).1
    go (Err a) e = absurd (number_not_zero a.refusal (sym (ap (λ (q : Query). (query_means q).number) e) ∙ z))
