-- Request d), "The sample ledger.", said a second time, in facts: what ends it, which line is told as bad, which table the samples are asked of,
-- and what each of them adds to the counts. No code leans on this. The definitions of `Ledgers` are proved to keep it.
-- Assumes nothing.
use Rattle.std.specs.Prelude.{◌≡◌, ℕ, ◌+◌, ◌%◌, ◌^◌, ◌<◌, Bool, true, false, List, [], ◌∷◌, ◌++◌, map, length, ◌≢◌}
use Rattle.std.proofs.Math.Option.{none, some}
use Rattle.rules.specs.Words.{Table, word}
use Rattle.rules.specs.Soundness.{PlainMap, SoundTable, HasMap, map_of}
use Rattle.rules.specs.Calls.{recover}
use Rattle.rules.specs.Results.{change_result, query_result}
use Rattle.rules.specs.Histories.{whole, after}
use Rattle.rules.specs.Demands.{count_of}
use Rattle.rules.specs.SpotSentences.{told, word_told}
use Rattle.rules.specs.declared.Record.{Record}
use Rattle.rules.specs.declared.Refusal.{Refusal}
use Rattle.std.specs.Prelude.{Ok, Err}
use Rattle.tallying.specs.Credits.{credited}
use Rattle.tallying.specs.Sentences.{total}
use Rattle.lines.specs.Lines.{line_of}
use Rattle.lines.specs.Samples.{sample_of, sample_text}
use Rattle.lines.specs.declared.Sample.TheVariants.{Key, Bad as BadSample, Other}
use Rattle.following.specs.Sentences.{EventDue}
use Rattle.replaying.specs.Events.{lent}
use Rattle.replaying.specs.Replays.{begun, table_of, turn_of, finish_of}
use Rattle.replaying.specs.Sentences.{GoesOn}
use Rattle.replaying.specs.declared.Answer.TheVariants.{Created, Bad}
use Rattle.replaying.specs.declared.Replay.{Replay}
use Rattle.crediting.specs.Books.{Book, figures_with, report_in, known_at}
use Rattle.crediting.specs.Ledgers.{none_in, named_in, buckets_in, Figures, figures_of, unmade, unrecovered, bad_line, counts, report_of}

-- ---- the script

-- a line with which no samples begin: where an event line could stand, it does not start with `sample=`
abbrev pub NoSample : Replay → List ℕ → Type 0
NoSample p l = EventDue p.script → sample_of l ≡ Other

-- lines of a script, one after the other: from a replay with its words to another
pub data Read : List ℕ → Replay → List (List ℕ) → List ℕ → Replay → Type 0 where
  nothing : {room : List ℕ} {p : Replay} → Read room p [] room p
  line : {room left : List ℕ} {p q : Replay} {l : List ℕ} {ls : List (List ℕ)} → NoSample p l → GoesOn (turn_of room p (line_of l)).answer
      → Read (turn_of room p (line_of l)).room (turn_of room p (line_of l)).replay ls left q
      → Read room p (l ∷ ls) left q

-- "lines are counted from 1 over the whole input"
abbrev pub LinesCounted : Type 0
LinesCounted = (room left : List ℕ) (ls : List (List ℕ)) (p : Replay) → Read room begun ls left p → p.script.lines ≡ length ls % 2 ^ 64

-- "A bad line anywhere ends it with `bad=` and its number", as the script program tells it, whatever comes
abbrev pub BadLinesEnd : Type 0
BadLinesEnd = (room left : List ℕ) (ls : List (List ℕ)) (p : Replay) → Read room begun ls left p → (l : List ℕ) → NoSample p l → (n : ℕ)
    → (turn_of left p (line_of l)).answer ≡ Bad n
    → (later : List (List ℕ)) (torn : Bool) → report_of room (ls ++ (l ∷ later)) torn ≡ bad_line n

-- and so at the end of the input: a torn line, or a missing one
abbrev pub BadEnd : Type 0
BadEnd = (room left : List ℕ) (ls : List (List ℕ)) (p : Replay) → Read room begun ls left p → (torn : Bool) (n : ℕ) → finish_of p torn ≡ Bad n
    → report_of room ls torn ≡ bad_line n

-- "A refused header (a cap above 8 too) prints `made=13` alone", whatever comes
abbrev pub RefusedTablesEnd : Type 0
RefusedTablesEnd = (room left : List ℕ) (ls : List (List ℕ)) (p : Replay) → Read room begun ls left p → (l : List ℕ)
    → NoSample p l → (e : Refusal)
    → (turn_of left p (line_of l)).answer ≡ Created (Err e)
    → (later : List (List ℕ)) (torn : Bool) → report_of room (ls ++ (l ∷ later)) torn ≡ unmade e

-- ---- recovery

-- the script has been read, and no line of it is open: an event line could stand
pub record Ready (room : List ℕ) (ls : List (List ℕ)) (left : List ℕ) (p : Replay) : Type 0 where
  pub read : Read room begun ls left p
  pub due : EventDue p.script

-- what recovery makes of the table that the script has left
abbrev pub final_table : Replay → List ℕ → Table
final_table p left = after (table_of p left) (whole recover lent)

-- it is refused, or accepted
abbrev pub Refuses : Replay → List ℕ → Refusal → Type 0
Refuses p left e = (change_result (table_of p left) lent recover).0 ≡ Err e

abbrev pub Accepts : Replay → List ℕ → Type 0
Accepts p left = (stores : ℕ) × ((change_result (table_of p left) lent recover).0 ≡ Ok stores)

-- "and the final map": the table is then sound, and has a map
abbrev pub FinalMap : Type 0
FinalMap = (p : Replay) (left : List ℕ) → Accepts p left → SoundTable (final_table p left) × HasMap (final_table p left) (map_of (final_table p left))

-- "if that is refused, `answer=12` is the whole report and no later line is read", behind the first good sample
abbrev pub UnrecoveredEnds : Type 0
UnrecoveredEnds = (room left : List ℕ) (ls : List (List ℕ)) (p : Replay) → Ready room ls left p → (e : Refusal) → Refuses p left e
    → (key : ℕ) → key < 2 ^ 64
    → (later : List (List ℕ)) (torn : Bool) → report_of room (ls ++ (sample_text key ∷ later)) torn ≡ unrecovered e

-- "or the input has ended"
abbrev pub UnrecoveredAtEnd : Type 0
UnrecoveredAtEnd = (room left : List ℕ) (ls : List (List ℕ)) (p : Replay) → Ready room ls left p → (e : Refusal) → Refuses p left e
    → report_of room ls false ≡ unrecovered e

-- ---- the samples

abbrev pub Words : List ℕ → Type 0
Words [] = Unit {0}
Words (key ∷ keys) = (key < 2 ^ 64) × Words keys

-- the counts of these keys, by the final map, and by the buckets that a query of each looks at
abbrev pub final_figures : Replay → List ℕ → List ℕ → Figures
final_figures p left keys = let u = final_table p left in figures_of (map_of u) (λ (key : ℕ). count_of (query_result u key)) keys

-- the number of the line behind the script and so many samples
abbrev pub number_behind : List (List ℕ) → List ℕ → ℕ
number_behind ls keys = (length ls + length keys + 1) % 2 ^ 64

-- a script and then samples, or none, are reported by their counts
abbrev pub SamplesReported : Type 0
SamplesReported = (room left : List ℕ) (ls : List (List ℕ)) (p : Replay) → Ready room ls left p → Accepts p left → (keys : List ℕ) → Words keys
    → report_of room (ls ++ map sample_text keys) false ≡ counts (final_figures p left keys)

-- "from there on every line is a sample line, and any other is bad": behind some samples
abbrev pub OtherLinesEnd : Type 0
OtherLinesEnd = (room left : List ℕ) (ls : List (List ℕ)) (p : Replay) → Ready room ls left p → Accepts p left → (key : ℕ) (keys : List ℕ)
    → Words (key ∷ keys)
    → (l : List ℕ) → ((k : ℕ) → sample_of l ≢ Key k)
    → (later : List (List ℕ)) (torn : Bool) → report_of room (ls ++ (map sample_text (key ∷ keys) ++ (l ∷ later))) torn
    ≡ bad_line (number_behind ls (key ∷ keys))

-- and so is a line that no newline ends
abbrev pub TornSamplesEnd : Type 0
TornSamplesEnd = (room left : List ℕ) (ls : List (List ℕ)) (p : Replay) → Ready room ls left p → Accepts p left → (key : ℕ) (keys : List ℕ)
    → Words (key ∷ keys)
    → report_of room (ls ++ map sample_text (key ∷ keys)) true ≡ bad_line (number_behind ls (key ∷ keys))

-- "when the first good sample line has been read": a first sample line that is bad is told, also of a table that recovery would refuse
abbrev pub BadFirstSampleEnds : Type 0
BadFirstSampleEnds = (room left : List ℕ) (ls : List (List ℕ)) (p : Replay) → Ready room ls left p → (l : List ℕ) → sample_of l ≡ BadSample
    → (later : List (List ℕ)) (torn : Bool) → report_of room (ls ++ (l ∷ later)) torn ≡ bad_line (number_behind ls [])

-- ---- where nothing more is read

-- a bad line, a refused table and a refused recovery are known as soon as they are told, so that no later line is read
abbrev pub EndsAreKnown : Type 0
EndsAreKnown = (b : Book) → ((n : ℕ) → report_in b ≡ bad_line n → known_at b.stage ≡ true)
    × ((e : Refusal) → report_in b ≡ unmade e → known_at b.stage ≡ true)
    × ((e : Refusal) → report_in b ≡ unrecovered e → known_at b.stage ≡ true)

-- ---- what each sample adds

-- "samples with no record": one more for a key that the map has not, wherever it stands, and none for one that it has
abbrev pub MissingCounted : Type 0
MissingCounted = (m : PlainMap) (before behind : List ℕ) (key : ℕ) → (none_in m [] ≡ 0)
    × (m key ≡ none → none_in m (before ++ (key ∷ behind)) ≡ none_in m (before ++ behind) + 1)
    × ((r : Record) → m key ≡ some r → none_in m (before ++ (key ∷ behind)) ≡ none_in m (before ++ behind))

-- "A function is named by a sample whose key has a record; "input order" is the order of those samples"
abbrev pub NamedInOrder : Type 0
NamedInOrder = (m : PlainMap) (before behind : List ℕ) (key : ℕ) → (named_in m [] ≡ [])
    × (m key ≡ none → named_in m (before ++ (key ∷ behind)) ≡ named_in m before ++ named_in m behind)
    × ((r : Record) → m key ≡ some r → named_in m (before ++ (key ∷ behind)) ≡ named_in m before ++ (r.function ∷ named_in m behind))

-- "the sum of the queries' counts", those of absent keys too
abbrev pub BucketsAdded : Type 0
BucketsAdded = (looked : ℕ → ℕ) (before behind : List ℕ) (key : ℕ) → (buckets_in looked [] ≡ 0)
    × (buckets_in looked (before ++ (key ∷ behind)) ≡ buckets_in looked (before ++ behind) + looked key)

-- request e), "Delete, update, the chain of a) and the ledger of d) rest on that lookup": a sample whose query finds its key is credited to the
-- function that stands after the word told
abbrev pub CreditsStood : Type 0
CreditsStood = (x : Figures) (t : Table) (key : ℕ) → (told t key).number ≡ 0
    → (figures_with x (query_result t key)).credits ≡ credited (word t (word_told t key + 1)) x.credits

-- "exact whole numbers": a number below 2^64 is told as it is
abbrev pub CountsExact : Type 0
CountsExact = (m : PlainMap) (looked : ℕ → ℕ) (keys : List ℕ) → (length keys < 2 ^ 64 → (figures_of m looked keys).samples ≡ length keys)
    × (none_in m keys < 2 ^ 64 → (figures_of m looked keys).missing ≡ none_in m keys)
    × (buckets_in looked keys < 2 ^ 64 → (figures_of m looked keys).buckets ≡ buckets_in looked keys)

-- "The total of all printed function counts, `other` and no-record equals the samples read"
abbrev pub SumIsSamples : Type 0
SumIsSamples = (room : List ℕ) (ls : List (List ℕ)) (torn : Bool) (x : Figures) → length ls < 2 ^ 64 → report_of room ls torn ≡ counts x
    → total x.credits.samples + x.credits.other + x.missing ≡ x.samples
