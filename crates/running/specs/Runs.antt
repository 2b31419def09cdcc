-- Document 01, "Script program": a run, byte by byte and as a whole.
-- Assumes nothing.
use Rattle.std.specs.Prelude.{ℕ, ◌+◌, ◌≤◌, ◌≡◌, Bool, true, false, cond, List, [], ◌∷◌, ◌++◌, map, length, take, set, eqb, ltb}
use Rattle.lines.specs.Lines.{line_of}
use Rattle.lines.specs.declared.Line.{Line}
use Rattle.following.specs.declared.Due.{Due}
use Rattle.following.specs.declared.Due.TheVariants.{Number as a_number, Event as an_event, Nothing as no_more}
use Rattle.replaying.specs.Replays.{begun, Turned, turn_of, finish_of}
use Rattle.replaying.specs.declared.Answer.{Answer}
use Rattle.replaying.specs.declared.Answer.TheVariants.{Nothing, Created, Changed, Kept, Found, Events, Bad}
use Rattle.replaying.specs.declared.Replay.{Replay}
use Rattle.running.specs.declared.Run.{Run}
use Rattle.running.specs.declared.Taken.{Taken}

-- ---- the whole run, over the input's lines

-- "each ended by a newline": the ended lines of an input, and whether it ends in a torn one
abbrev pub joined : ℕ → List (List ℕ) × Bool → List (List ℕ) × Bool
joined b ([], torn) = ([], true)
joined b (l ∷ ls, torn) = ((b ∷ l) ∷ ls, torn)

abbrev pub split : List ℕ → List (List ℕ) × Bool
split [] = ([], false)
split (b ∷ bs) = cond (eqb b 10) ([] ∷ (split bs).0, (split bs).1) (joined b (split bs))

-- the same in facts: lines without that byte, each followed by one, and a rest without it, are just those lines, and torn where there
-- is some of the rest
abbrev pub with_ends : List (List ℕ) → List ℕ → List ℕ
with_ends [] rest = rest
with_ends (l ∷ ls) rest = l ++ (10 ∷ with_ends ls rest)

abbrev pub NoNewline : List ℕ → Type 0
NoNewline [] = Unit {0}
NoNewline (b ∷ bs) = (b ≡ 10 → ⊥) × NoNewline bs

abbrev pub Lines : List (List ℕ) → Type 0
Lines [] = Unit {0}
Lines (l ∷ ls) = NoNewline l × Lines ls

abbrev pub some_of : List ℕ → Bool
some_of [] = false
some_of (b ∷ bs) = true

abbrev pub LinesSplit : Type 0
LinesSplit = (ls : List (List ℕ)) (rest : List ℕ) → Lines ls → NoNewline rest → split (with_ends ls rest) ≡ (ls, some_of rest)

-- Every line in turn, then the end, whatever is made of them: `with_answer` makes it of what a line is answered and of what was made of the lines
-- behind it, `at_end` of the words, the replay and whether a line is torn
abbrev pub over_lines : {A : Type 0} → (Answer → A → A) → (List ℕ → Replay → Bool → A) → List ℕ → Replay → List Line → Bool → A
over_lines with_answer at_end room p [] torn = at_end room p torn
over_lines with_answer at_end room p (l ∷ ls) torn =
    let t = turn_of room p l in with_answer t.answer (over_lines with_answer at_end t.room t.replay ls torn)

-- the answers
abbrev pub answers : List ℕ → Replay → List Line → Bool → List Answer
answers room p [] torn = finish_of p torn ∷ []
answers room p (l ∷ ls) torn = let t = turn_of room p l in t.answer ∷ answers t.room t.replay ls torn

unfoldable pub answers_to : List ℕ → List ℕ → List Answer
answers_to room input = answers room begun (map line_of (split input).0) (split input).1

-- ---- byte by byte

abbrev pub ready : Run
ready = record { replay = begun; held = 0 }

-- as many bytes of a line as are held: one more than the longest good line has, a ledger's `sample=` with twenty digits
abbrev pub line_room : ℕ
line_room = 28

-- a byte is held where there is place
abbrev pub held_after : List ℕ → ℕ → ℕ → ℕ × List ℕ
held_after line held byte = cond (ltb held line_room) (held + 1, set line held byte) (held, line)

abbrev pub HeldIs : List ℕ → ℕ → ℕ → ℕ → List ℕ → Type 0
HeldIs line held byte r left = ◌≡◌ {A = ℕ × List ℕ} (r, left) (held_after line held byte)

-- the line that a newline ends
abbrev pub line_turn : Run → List ℕ → List ℕ → Turned
line_turn run room line = turn_of room run.replay (line_of (take run.held line))

pub record LineTaken (run : Run) (room line : List ℕ) (r : Taken) (left : List ℕ) : Type 0 where
  pub replay : r.run.replay ≡ (line_turn run room line).replay
  pub held : r.run.held ≡ 0
  pub answer : r.answer ≡ (line_turn run room line).answer
  pub words : left ≡ (line_turn run room line).room

-- what a byte makes of a run: the run, the lent words, the held bytes and the answer
pub record After : Type 0 where
  pub run : Run
  pub room : List ℕ
  pub line : List ℕ
  pub answer : Answer

unfoldable pub byte_taken : Run → List ℕ → List ℕ → ℕ → After
byte_taken run room line byte =
    let t = line_turn run room line in
    let h = held_after line run.held byte in
    cond (eqb byte 10) (record { run = record { replay = t.replay; held = 0 }; room = t.room; line = line; answer = t.answer })
    (record { run = record { replay = run.replay; held = h.0 }; room = room; line = h.1; answer = Nothing })

-- the code takes a byte so: answer r, and these words and held bytes at exit
pub record TakenIs (x : After) (r : Taken) (left held : List ℕ) : Type 0 where
  pub taken : r.run ≡ x.run
  pub answer : r.answer ≡ x.answer
  pub words : left ≡ x.room
  pub bytes : held ≡ x.line

abbrev pub ByteTaken : Run → List ℕ → List ℕ → ℕ → Taken → List ℕ → List ℕ → Type 0
ByteTaken run room line byte r left held = TakenIs (byte_taken run room line byte) r left held

-- "and stop", "and no event line is read": all that is answered is known
abbrev pub over_at : Due → Bool
over_at (a_number name) = false
over_at an_event = false
over_at no_more = true

abbrev pub known : Run → Bool
known run = over_at run.replay.script.due

unfoldable pub end_of : Run → Answer
end_of run = finish_of run.replay (ltb 0 run.held)

-- ---- the two are one

-- the same of every byte in turn
abbrev pub over_bytes : {A : Type 0} → (Answer → A → A) → (List ℕ → Replay → Bool → A) → Run → List ℕ → List ℕ → List ℕ → A
over_bytes with_answer at_end run room line [] = at_end room run.replay (ltb 0 run.held)
over_bytes with_answer at_end run room line (b ∷ bs) =
    let x = byte_taken run room line b in with_answer x.answer (over_bytes with_answer at_end x.run x.room x.line bs)

abbrev pub fed : Run → List ℕ → List ℕ → List ℕ → List Answer
fed run room line [] = end_of run ∷ []
fed run room line (b ∷ bs) = let x = byte_taken run room line b in x.answer ∷ fed x.run x.room x.line bs

-- the answers that say something
abbrev pub silent : Answer → Bool
silent Nothing = true
silent (Created v) = false
silent (Changed r) = false
silent (Kept r n) = false
silent (Found q) = false
silent (Events n) = false
silent (Bad n) = false

abbrev pub spoken : List Answer → List Answer
spoken [] = []
spoken (a ∷ rest) = cond (silent a) (spoken rest) (a ∷ spoken rest)

-- any input, fed byte by byte with that room for a line, is answered as its lines are
abbrev pub BytesAnswerAsLines : Type 0
BytesAnswerAsLines = (room line input : List ℕ) → length line ≡ line_room → spoken (fed ready room line input) ≡ spoken (answers_to room input)

-- ---- where the answer is known

-- then nothing more is said, whatever comes
abbrev pub KnownIsAll : Type 0
KnownIsAll = (run : Run) (room line input : List ℕ) → known run ≡ true → spoken (fed run room line input) ≡ []

-- and until then the end would say something
abbrev pub UnknownIsNotAll : Type 0
UnknownIsNotAll = (run : Run) → known run ≡ false → silent (end_of run) ≡ false

-- ---- an input that comes in parts

-- where the bytes before have left a run, with the lent words and the held bytes
pub record Stand : Type 0 where
  pub run : Run
  pub room : List ℕ
  pub line : List ℕ

abbrev pub after_byte : Stand → ℕ → Stand
after_byte s b = let x = byte_taken s.run s.room s.line b in record { run = x.run; room = x.room; line = x.line }

unfoldable pub after_bytes : Stand → List ℕ → Stand
after_bytes s [] = s
after_bytes s (b ∷ bs) = after_bytes (after_byte s b) bs

-- what a part is answered
unfoldable pub answers_in : Stand → List ℕ → List Answer
answers_in s [] = []
answers_in s (b ∷ bs) = (byte_taken s.run s.room s.line b).answer ∷ answers_in (after_byte s b) bs

-- parts one after the other, as one input
abbrev pub together : List (List ℕ) → List ℕ
together [] = []
together (p ∷ ps) = p ++ together ps

-- a part and then the rest is all of it: the parts may be cut anywhere
abbrev pub PartsAreFed : Type 0
PartsAreFed = (s : Stand) (part later : List ℕ) → fed s.run s.room s.line (part ++ later)
    ≡ answers_in s part ++ fed (after_bytes s part).run (after_bytes s part).room (after_bytes s part).line later

-- so many bytes or more were read, in parts, and what is made of them stands behind them all: of a run, or of whatever else takes parts
pub record Behind {S : Type 0} (take_part : S → List ℕ → S) (x : S) (count : ℕ) (u : S) : Type 0 where
  pub parts : List (List ℕ)
  pub stand : u ≡ take_part x (together parts)
  pub long : count ≤ length (together parts)
