-- How the program takes an input that comes in parts, byte by byte, and what it writes then.
-- Assumes nothing.
use Rattle.std.specs.Prelude.{ℕ, ◌≡◌, Bool, true, false, cond, List, [], ◌∷◌, ◌++◌, length, ltb}
use Rattle.std.specs.Prelude.{Ok, Err}
use Rattle.replaying.specs.declared.Answer.{Answer}
use Rattle.replaying.specs.declared.Answer.TheVariants.{Nothing, Created, Changed, Kept, Found, Events, Bad}
use Rattle.running.specs.Runs.{line_room, ready, byte_taken, together}
use Rattle.running.specs.Inputs.{Standing, known_in}
use Rattle.convert.specs.Outputs.{Report, bad_line, unmade, at_end, report_text, output_to}
use Rattle.convert.specs.declared.Ending.{Ending}
use Rattle.convert.specs.declared.Ending.TheVariants.{Open, Unmade, Bad as BadLine}
use Rattle.convert.specs.declared.Course.{Course}

-- ---- byte by byte

-- how an answer ends a script
abbrev pub ended_by : Answer → Ending
ended_by (Bad n) = BadLine n
ended_by (Created (Err e)) = Unmade e
ended_by (Created (Ok tt)) = Open
ended_by Nothing = Open
ended_by (Changed r) = Open
ended_by (Kept r n) = Open
ended_by (Found q) = Open
ended_by (Events n) = Open

abbrev pub has_ended : Ending → Bool
has_ended Open = false
has_ended (Unmade e) = true
has_ended (BadLine n) = true

-- a course, with the words and bytes that are lent to it
abbrev pub standing : Course → List ℕ → List ℕ → Standing Course
standing c room line = record { state = c; room = room; line = line }

-- before the first byte
abbrev pub begun : List ℕ → List ℕ → Standing Course
begun room line = standing (record { run = ready; ending = Open }) room line

abbrev pub after_byte : Standing Course → ℕ → Standing Course
after_byte x b =
    let y = byte_taken x.state.run x.room x.line b in
    standing (record { run = y.run; ending = ended_by y.answer }) y.room y.line

-- no byte is taken once the script has ended
abbrev pub has_ended_in : Course → Bool
has_ended_in c = has_ended c.ending

abbrev pub is_known : Standing Course → Bool
is_known = known_in has_ended_in

unfoldable pub after_bytes : Standing Course → List ℕ → Standing Course
after_bytes x [] = x
after_bytes x (b ∷ bs) = cond (is_known x) x (after_bytes (after_byte x b) bs)

-- ---- what is told

-- a script that has not ended before the input does ends by what it is answered there
abbrev pub last_ending : Ending → Answer → Ending
last_ending Open a = ended_by a
last_ending (Unmade e) a = Unmade e
last_ending (BadLine n) a = BadLine n

abbrev pub told_of : Ending → Report → Report
told_of Open later = later
told_of (Unmade e) later = unmade e
told_of (BadLine n) later = bad_line n

unfoldable pub report_from : Course → List ℕ → Report
report_from c room = told_of c.ending (at_end room c.run.replay (ltb 0 c.run.held))

-- ---- what is written, whatever the parts

unfoldable pub written_after : Standing Course → List ℕ
written_after x = report_text (report_from x.state x.room)

-- where the input has ended it is the text of the whole input
abbrev pub PartsWritten : Type 0
PartsWritten = (room line : List ℕ) (parts : List (List ℕ)) → length line ≡ line_room
    → written_after (after_bytes (begun room line) (together parts)) ≡ output_to room (together parts)

-- and where it is known it is too, whatever the input has after the parts
abbrev pub KnownPartsWritten : Type 0
KnownPartsWritten = (room line : List ℕ) (parts : List (List ℕ)) (later : List ℕ) → length line ≡ line_room
    → is_known (after_bytes (begun room line) (together parts)) ≡ true
    → written_after (after_bytes (begun room line) (together parts)) ≡ output_to room (together parts ++ later)

-- a part and then the rest is all of it: the parts may be cut anywhere
abbrev pub PartsAreTaken : Type 0
PartsAreTaken = (x : Standing Course) (part later : List ℕ) → after_bytes x (part ++ later) ≡ after_bytes (after_bytes x part) later

-- ---- what the program's functions promise beside how it reads (`Inputs` of `running`)

-- the largest cap, and the bytes of the longest report: two answers of two lines each, with numbers of twenty digits
abbrev pub largest : ℕ
largest = 7

abbrev pub longest : ℕ
longest = 106
