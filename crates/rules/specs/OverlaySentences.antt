-- Document 02, request i), a second time: its sentences in facts about words, queries and maps. They are types, as those of `Demands` are: a law of
-- proofs/ that proves one bears its name, beginning with a small letter.
-- t is the newer table, u the older. Nothing is asked of the two together: c, form, phase and multipliers of one need not be those of the other.
-- Assumes nothing.
use Rattle.std.specs.Prelude.{ℕ, ◌+◌, ◌≤◌, ◌≡◌, cond, List, [], ◌∷◌, ◌⊎◌, length, get_or, eqb}
use Rattle.std.proofs.Math.Option.{Option, none, some}
use Rattle.rules.specs.Words.{Table, word, header_of}
use Rattle.rules.specs.Stores.{Store, made}
use Rattle.rules.specs.Soundness.{SoundTable, PlainMap, HasMap}
use Rattle.rules.specs.Answers.{number_of, Meaning, asked_means}
use Rattle.rules.specs.Calls.{Call, listed, insert, update, delete, outcome}
use Rattle.rules.specs.Overlays.{asked_result, Part, part_result, words_of}
use Rattle.rules.specs.Demands.{Held, bad_header, flag_not_zero}
use Rattle.rules.specs.SpotSentences.{told, word_told}
use Rattle.rules.specs.declared.Record.{Record}
use Rattle.rules.specs.declared.Refusal.{Refusal}
use Rattle.rules.specs.declared.Refusal.TheVariants.{KeyAbsent}

-- what the second call gives: "the refusal number, the table's name and the buckets looked at"
abbrev pub tells : Table → Table → ℕ → Meaning
tells t u key = asked_means (asked_result t u key)

abbrev pub number_told : Table → Table → ℕ → ℕ
number_told t u key = (tells t u key).number

abbrev pub name_told : Table → Table → ℕ → ℕ
name_told t u key = get_or (tells t u key).values 0 0

abbrev pub count_told : Table → Table → ℕ → ℕ
count_told t u key = get_or (tells t u key).values 1 0

-- ==== "Ask both: a key in the newer table hides the same key in the older." By what a query of each table tells, every answer: a is the newer's, b the
-- older's. "With 1 or 3 name that table, count 0; with 5 the older." "the buckets looked at": the newer's, and the older's where the newer has not the
-- key

abbrev pub buckets : Meaning → ℕ
buckets a = get_or a.values 2 0

-- refused by "1 or 3"
abbrev pub Unfit : Meaning → Type 0
Unfit a = (a.number ≡ 1) ⊎ (a.number ≡ 3)

abbrev pub AskedBy : Meaning → Meaning → Meaning → Type 0
AskedBy a b m =
    (Unfit a × (m ≡ record { number = a.number; values = 0 ∷ 0 ∷ [] }))
    ⊎ (((Unfit a → ⊥) × Unfit b × (m ≡ record { number = b.number; values = 1 ∷ 0 ∷ [] }))
    ⊎ (((a.number ≡ 0) × (Unfit b → ⊥) × (m ≡ record { number = 0; values = 0 ∷ buckets a ∷ [] }))
    ⊎ (((a.number ≡ 5) × (b.number ≡ 0) × (m ≡ record { number = 0; values = 1 ∷ (buckets a + buckets b) ∷ [] }))
    ⊎ ((a.number ≡ 5) × (b.number ≡ 5) × (m ≡ record { number = 5; values = 1 ∷ (buckets a + buckets b) ∷ [] })))))

abbrev pub AskedAnswers : Type 0
AskedAnswers = (t u : Table) (key : ℕ) → AskedBy (told t key) (told u key) (tells t u key)

-- ==== "The answer is the part of whichever table holds the key, three words of that table and no copy; an empty part with a refusal."

-- the table s has the key where a query of it tells, and the part is those three words of it
pub record ThreeWords (s : Table) (key : ℕ) (p : Part) (words : List ℕ) : Type 0 where
  pub found : (told s key).number ≡ 0
  pub start : p.start ≡ word_told s key
  pub size : p.size ≡ 3
  pub inside : p.start + 3 ≤ length s
  pub own_key : word s p.start ≡ key
  pub own_function : word s (p.start + 1) ≡ get_or (told s key).values 0 0
  pub own_place : word s (p.start + 2) ≡ get_or (told s key).values 1 0
  pub three : words ≡ word s p.start ∷ word s (p.start + 1) ∷ word s (p.start + 2) ∷ []

-- it is of the table that `asked` names; empty exactly when the number is not 0, and then it begins at word 0
abbrev pub PartBy : Table → Table → ℕ → ℕ → ℕ → Part → List ℕ → Type 0
PartBy t u key number name p words =
    (p.name ≡ name)
    × (((number ≡ 0) × (((name ≡ 0) × ThreeWords t key p words) ⊎ ((name ≡ 1) × ThreeWords u key p words)))
    ⊎ ((number ≡ 0 → ⊥) × (p.start ≡ 0) × (p.size ≡ 0) × (words ≡ [])))

abbrev pub PartsAgree : Type 0
PartsAgree =
    (t u : Table) (key : ℕ)
    → PartBy t u key (number_told t u key) (name_told t u key) (part_result t u key) (words_of (part_result t u key) t u)

-- ==== "the buckets looked at, at most the sum of both bounds": four buckets at rest, six in either phase
abbrev pub bound : Table → ℕ
bound t = cond (eqb (header_of t).state.phase 0) 4 6

abbrev pub AskedLooksAtFew : Type 0
AskedLooksAtFew = (t u : Table) (key : ℕ) → count_told t u key ≤ bound t + bound u

-- ==== "Refusals 1 and 3 are tested on both tables before any lookup, both of the newer first; 5 when neither has the key. With 1 or 3 name that table ..;
-- with 5 the older.": the first reason that holds refuses, and names its table

pub record Reason : Type 1 where
  pub fact : Type 0
  pub refusal : Refusal
  pub name : ℕ

abbrev pub reason_of : Type 0 × Refusal → ℕ → Reason
reason_of x name = record { fact = x.0; refusal = x.1; name = name }

abbrev pub reasons : Table → Table → ℕ → List Reason
reasons t u key =
    reason_of (bad_header t) 0 ∷ reason_of (flag_not_zero t) 0 ∷ reason_of (bad_header u) 1 ∷ reason_of (flag_not_zero u) 1
    ∷ reason_of (((Held t key → ⊥) × (Held u key → ⊥)), KeyAbsent) 1 ∷ []

abbrev pub FirstNamed : List Reason → ℕ → ℕ → Type 0
FirstNamed [] number name = number ≡ 0
FirstNamed (x ∷ xs) number name =
    (x.fact × (number ≡ number_of x.refusal) × (name ≡ x.name)) ⊎ ((x.fact → ⊥) × FirstNamed xs number name)

abbrev pub AskedRefusals : Type 0
AskedRefusals = (t u : Table) (key : ℕ) → FirstNamed (reasons t u key) (number_told t u key) (name_told t u key)

-- ==== over two sound tables with the maps m and n: m's record where m has the key, else n's

-- the words that a caller sees, and the number beside them
pub record Sees (t u : Table) (key number : ℕ) (words : List ℕ) : Type 0 where
  pub answer : number_told t u key ≡ number
  pub part : words_of (part_result t u key) t u ≡ words

abbrev pub OverlayBy : Table → Table → ℕ → Option Record → Option Record → Type 0
OverlayBy t u key (some r) o = (name_told t u key ≡ 0) × Sees t u key 0 (key ∷ r.function ∷ r.place ∷ [])
OverlayBy t u key none (some r) = (name_told t u key ≡ 1) × Sees t u key 0 (key ∷ r.function ∷ r.place ∷ [])
OverlayBy t u key none none = (name_told t u key ≡ 1) × Sees t u key 5 []

abbrev pub OverlayAnswers : Type 0
OverlayAnswers =
    (t u : Table) (m n : PlainMap) → SoundTable t → HasMap t m → SoundTable u → HasMap u n → (key : ℕ) → OverlayBy t u key (m key) (n key)

-- ==== "With both tables sound, an insert, update or delete of a hidden key in the older table, made whole, changes no record answered for any key; slots
-- and counts of other keys may change."

abbrev pub ChangesKey : ℕ → Call → Type 0
ChangesKey key q = ((r : Record) × (q ≡ insert key r)) ⊎ (((r : Record) × (q ≡ update key r)) ⊎ (q ≡ delete key))

-- the newer table has the key `hidden`; v is the older table after the change, n the words of its list
abbrev pub HiddenChangesNothing : Type 0
HiddenChangesNothing =
    (t u : Table) → SoundTable t → SoundTable u → (hidden : ℕ) → (told t hidden).number ≡ 0
    → (n : ℕ) (q : Call) → ChangesKey hidden q → (xs : List Store) → outcome u n q ≡ listed xs
    → let v = made u xs in
    SoundTable v × ((key : ℕ) → (name_told t v key ≡ name_told t u key) × Sees t v key (number_told t u key) (words_of (part_result t u key) t u))
