-- The program of request h), said a second time, in facts: what ends it, which caps it takes, which table is converted and what is told of the ways. No
-- code leans on this. The definitions of `Outputs` are proved to keep it.
-- Assumes nothing.
use Rattle.std.specs.Prelude.{ℕ, ◌^◌, ◌≤◌, ◌<◌, ◌≡◌, false, List, [], ◌∷◌, ◌++◌, ◌⊎◌, length, Ok}
use Rattle.rules.specs.Words.{Table, word, words_for}
use Rattle.rules.specs.Results.{created}
use Rattle.rules.specs.Conversions.{convert_result}
use Rattle.rules.specs.ConversionSentences.{Told}
use Rattle.rules.specs.Demands.{GoodCreation}
use Rattle.rules.specs.declared.Refusal.{Refusal}
use Rattle.std.specs.Prelude.{Err}
use Rattle.lines.specs.Lines.{line_of}
use Rattle.lines.specs.Texts.{line_text as script_text}
use Rattle.lines.specs.declared.Line.TheVariants.{Number}
use Rattle.lines.specs.declared.Name.TheVariants.{Cap, Top, Mul1, Mul2}
use Rattle.replaying.specs.Replays.{begun, table_of, turn_of, finish_of}
use Rattle.replaying.specs.Sentences.{GoesOn}
use Rattle.replaying.specs.declared.Answer.TheVariants.{Created, Events, Bad}
use Rattle.replaying.specs.declared.Replay.{Replay}
use Rattle.running.specs.Runs.{with_ends, NoNewline, Lines, some_of}
use Rattle.saying.specs.Texts.{line_text}
use Rattle.convert.specs.Outputs.{output_to, ways_text}
use Rattle.convert.specs.Parts.{largest}

-- ---- the script

-- lines of a script, one after the other, none of which ends it: from a replay with its words to another
pub data Read : List ℕ → Replay → List (List ℕ) → List ℕ → Replay → Type 0 where
  nothing : {room : List ℕ} {p : Replay} → Read room p [] room p
  line : {room left : List ℕ} {p q : Replay} {l : List ℕ} {ls : List (List ℕ)} → GoesOn (turn_of room p (line_of l)).answer
      → Read (turn_of room p (line_of l)).room (turn_of room p (line_of l)).replay ls left q
      → Read room p (l ∷ ls) left q

-- the lines of an input, before any other bytes
pub record Begins (room : List ℕ) (ls : List (List ℕ)) (left : List ℕ) (p : Replay) : Type 0 where
  pub lines : Lines ls
  pub read : Read room begun ls left p

-- a bad line is told alone, "`bad=` .. as the ledger has" it, whatever comes behind it
abbrev pub BadLinesEnd : Type 0
BadLinesEnd = (room left : List ℕ) (ls : List (List ℕ)) (p : Replay) → Begins room ls left p → (l : List ℕ) → NoNewline l → (n : ℕ)
    → (turn_of left p (line_of l)).answer ≡ Bad n
    → (later : List ℕ) → output_to room (with_ends (ls ++ (l ∷ [])) later) ≡ line_text ("bad", n)

-- and so at the end of the input: a torn line, or a missing one
abbrev pub BadEnd : Type 0
BadEnd = (room left : List ℕ) (ls : List (List ℕ)) (p : Replay) → Begins room ls left p → (rest : List ℕ) → NoNewline rest → (n : ℕ)
    → finish_of p (some_of rest) ≡ Bad n
    → output_to room (with_ends ls rest) ≡ line_text ("bad", n)

-- a table that is not made is told alone, "`made=13` as the ledger has" it, whatever comes
abbrev pub RefusedTablesEnd : Type 0
RefusedTablesEnd = (room left : List ℕ) (ls : List (List ℕ)) (p : Replay) → Begins room ls left p → (l : List ℕ) → NoNewline l → (e : Refusal)
    → (turn_of left p (line_of l)).answer ≡ Created (Err e)
    → (later : List ℕ) → output_to room (with_ends (ls ++ (l ∷ [])) later) ≡ line_text ("made", 13)

-- "reads a table script to its end, .. the table NOT recovered": the table is converted as the lines have left it
abbrev pub WholeScriptsConvert : Type 0
WholeScriptsConvert = (room left : List ℕ) (ls : List (List ℕ)) (p : Replay) → Begins room ls left p → (n : ℕ) → finish_of p false ≡ Events n
    → output_to room (with_ends ls []) ≡ ways_text (table_of p left)

-- and there is nothing else that is told
abbrev pub NothingElseTold : Type 0
NothingElseTold = (room input : List ℕ) → ((n : ℕ) × (output_to room input ≡ line_text ("bad", n))) ⊎ (output_to room input ≡ line_text ("made", 13))
    ⊎ ((t : Table) × (output_to room input ≡ ways_text t))

-- ---- the caps

-- the four lines of a header
abbrev pub header_lines : ℕ → ℕ → ℕ → ℕ → List (List ℕ)
header_lines c k mul1 mul2 =
    script_text (Number Cap c) ∷ script_text (Number Top k) ∷ script_text (Number Mul1 mul1) ∷ script_text (Number Mul2 mul2) ∷ []

-- its numbers are good ones
abbrev pub Numbers : ℕ → ℕ → ℕ → ℕ → Type 0
Numbers c k mul1 mul2 = (c < 2 ^ 64) × (k < 2 ^ 64) × (mul1 < 2 ^ 64) × (mul2 < 2 ^ 64)

-- "cap at most 7 (a larger one gives `made=13`; only this program has that limit)", whatever comes
abbrev pub LargerCapsNotMade : Type 0
LargerCapsNotMade = (room : List ℕ) → length room ≡ words_for largest → (c k mul1 mul2 : ℕ) → Numbers c k mul1 mul2 → largest < c
    → (later : List ℕ) → output_to room (with_ends (header_lines c k mul1 mul2) later) ≡ line_text ("made", 13)

-- up to 7 a table is made, of form 1, and is converted where the input ends there
abbrev pub CapsToSevenMade : Type 0
CapsToSevenMade = (room : List ℕ) → length room ≡ words_for largest → (c k mul1 mul2 : ℕ) → Numbers c k mul1 mul2 → c ≤ largest
    → GoodCreation (words_for c) 1 c k mul1 mul2
    → output_to room (with_ends (header_lines c k mul1 mul2) []) ≡ ways_text (created 1 c k mul1 mul2)

-- ---- the ways

-- "prints `answer=` and `key=` of the way to form 2", and no more where that is not 0. Whatever words a second table of that length had, s
abbrev pub RefusedWaysTold : Type 0
RefusedWaysTold = (t s : Table) → length s ≡ length t → (number key : ℕ) → Told (convert_result t s).0 number key → (number ≡ 0 → ⊥)
    → ways_text t ≡ line_text ("answer", number) ++ line_text ("key", key)

-- "and where that is 0 the same two lines of the way back": from the table that the way there has made, u, in another one of that length, r
abbrev pub BothWaysTold : Type 0
BothWaysTold = (t s u r : Table) → length s ≡ length t → convert_result t s ≡ (Ok tt, u) → length r ≡ length t → (number key : ℕ)
    → Told (convert_result u r).0 number key
    → ways_text t ≡ line_text ("answer", 0) ++ line_text ("key", 0) ++ line_text ("answer", number) ++ line_text ("key", key)

-- "the way to form 2": scripts make form 1, and the table of a way that succeeds has the other form
abbrev pub WayToForm2 : Type 0
WayToForm2 = (t s u : Table) → word t 0 ≡ 1 → convert_result t s ≡ (Ok tt, u) → word u 0 ≡ 2
