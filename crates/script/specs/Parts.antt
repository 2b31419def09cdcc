-- How the program reads and writes: an input that comes in parts, of any sizes and any number, and what is written for each.
-- Assumes nothing.
use Rattle.std.specs.Prelude.{ℕ, ◌+◌, ◌-◌, ◌^◌, ◌≤◌, ◌<◌, ◌≡◌, Bool, true, false, cond, ◌⊎◌, length, take, ltb}
use mathlib.Core.List.{List, [], ◌∷◌, ◌++◌, flat_map}
use Rattle.replaying.specs.Rooms.{RoomFor}
use Rattle.running.specs.Runs.{line_room, ready, known, end_of, Stand, after_bytes, answers_in, together, Behind}
use Rattle.running.specs.declared.Run.{Run}
use Rattle.saying.specs.Texts.{text_of, text_bytes}
use Rattle.script.specs.Outputs.{output_to}
use Rattle.script.specs.declared.Took.{Took}
use Rattle.script.specs.declared.Turn.{Turn}
use Rattle.script.specs.declared.Outcome.{Outcome}
use Rattle.script.specs.declared.Outcome.TheVariants.{Going, Known, Ended, Unread, Unwritten}

-- a run with the lent words and the held bytes; before the first byte
abbrev pub standing : Run → List ℕ → List ℕ → Stand
standing run room line = record { run = run; room = room; line = line }

abbrev pub begun : List ℕ → List ℕ → Stand
begun room line = standing ready room line

-- the text that a part is answered with
unfoldable pub text_in : Stand → List ℕ → List ℕ
text_in s part = flat_map text_of (answers_in s part)

-- the texts of parts one after the other
abbrev pub texts : Stand → List (List ℕ) → List ℕ
texts s [] = []
texts s (p ∷ ps) = text_in s p ++ texts (after_bytes s p) ps

-- ---- what is written, whatever the parts

-- the texts of the parts, and where the input has ended that of the end, are what the whole input is answered
abbrev pub PartsWritten : Type 0
PartsWritten = (room line : List ℕ) (parts : List (List ℕ)) → length line ≡ line_room
    → texts (begun room line) parts ++ text_of (end_of (after_bytes (begun room line) (together parts)).run) ≡ output_to room (together parts)

-- where the answer is known the texts of the parts are all of it, whatever the input has after them
abbrev pub KnownPartsWritten : Type 0
KnownPartsWritten = (room line : List ℕ) (parts : List (List ℕ)) (later : List ℕ) → length line ≡ line_room
    → known (after_bytes (begun room line) (together parts)).run ≡ true
    → texts (begun room line) parts ≡ output_to room (together parts ++ later)

-- ---- what the program's functions promise. s is where the run stood, and u is where it stands at exit

-- no byte more is taken: the answer is known, or there are fewer free bytes than an answer is given
abbrev pub pauses : Run → ℕ → Bool
pauses run free = cond (known run) true (ltb free text_bytes)

-- of a text some bytes are taken, and their text is at the front of the buffer. The taking pauses before the
-- end only for that reason
pub record TookSome (s : Stand) (text : List ℕ) (r : Took) (u : Stand) (out : List ℕ) : Type 0 where
  pub within : r.taken ≤ length text
  pub stand : u ≡ after_bytes s (take r.taken text)
  pub fits : r.waiting ≤ length out
  pub front : take r.waiting out ≡ text_in s (take r.taken text)
  pub pausing : r.taken < length text → pauses u.run (length out - r.waiting) ≡ true

-- of a part all is taken, unless the answer is known or a write failed
pub record TookPart (s : Stand) (part : List ℕ) (outcome : Outcome) (u : Stand) : Type 0 where
  pub taken : ℕ
  pub within : taken ≤ length part
  pub stand : u ≡ after_bytes s (take taken part)
  pub all : outcome ≡ Going → known u.run ≡ false → taken ≡ length part
  pub either : (outcome ≡ Going) ⊎ (outcome ≡ Unwritten)

-- what was read is taken. The program goes on where there was some of it and all that it is answered with was written: then all of it
-- is taken, unless the answer is known. It ends where there was none of it
pub record WentOn (s : Stand) (part : List ℕ) (r : Turn) (u : Stand) : Type 0 where
  pub taken : ℕ
  pub within : taken ≤ length part
  pub stand : u ≡ after_bytes s (take taken part)
  pub all : r.outcome ≡ Going → known u.run ≡ false → taken ≡ length part
  pub some : r.outcome ≡ Going → 0 < length part
  pub ended : r.outcome ≡ Ended → length part ≡ 0
  pub other : (r.outcome ≡ Known → ⊥) × (r.outcome ≡ Unread → ⊥)

-- nothing is read where the answer is known. Else the read fails, and nothing is taken; or some bytes stand at the front of the input,
-- as many as `read` answers, and they are taken
pub record ReadSome (s : Stand) (input : List ℕ) (r : Turn) (u : Stand) : Type 0 where
  pub stops : known s.run ≡ true → (r.outcome ≡ Known) × (u ≡ s)
  pub reads : known s.run ≡ false → ((r.outcome ≡ Unread) × (u ≡ s)) ⊎ ((n : ℕ) × (n ≤ length input) × WentOn s (take n input) r u)

-- All parts are taken, in their order. The answer is said to be known only where it is, and the program stops while it could go on
-- only behind 2^64 − 1 bytes or more. Its room has the words of every table that it may be asked for
pub record Ran (s : Stand) (outcome : Outcome) (u : Stand) : Type 0 where
  pub count : ℕ
  pub behind : Behind after_bytes s count u
  pub rightly : outcome ≡ Known → known u.run ≡ true
  pub never : outcome ≡ Going → 2 ^ 64 ≤ count + 1
  pub room : RoomFor 8 s.room
