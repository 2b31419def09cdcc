-- What the program writes: the report of an input that comes in parts, of any sizes and any number.
-- Assumes nothing.
use Rattle.std.specs.Prelude.{ℕ, ◌≡◌, Bool, true, List, ◌++◌, length}
use Rattle.running.specs.Runs.{line_room, together}
use Rattle.crediting.specs.Books.{known_at}
use Rattle.posting.specs.Posts.{Post, begun, after_bytes, report_after, post_of}
use Rattle.reporting.specs.Texts.{report_text}
use Rattle.ledger.specs.Outputs.{output_to}
use Rattle.ledger.specs.declared.Turn.{Turn}

-- ---- what is written, whatever the parts

-- the text of a report
unfoldable pub written_after : Post → List ℕ
written_after x = report_text (report_after x)

-- where the input has ended it is that of the whole input
abbrev pub PartsWritten : Type 0
PartsWritten = (room line : List ℕ) (parts : List (List ℕ)) → length line ≡ line_room
    → written_after (after_bytes (begun room line) (together parts)) ≡ output_to room (together parts)

-- and where the report is known it is too, whatever the input has after the parts
abbrev pub KnownPartsWritten : Type 0
KnownPartsWritten = (room line : List ℕ) (parts : List (List ℕ)) (later : List ℕ) → length line ≡ line_room
    → known_at (after_bytes (begun room line) (together parts)).book.stage ≡ true
    → written_after (after_bytes (begun room line) (together parts)) ≡ output_to room (together parts ++ later)

-- ---- what the program's functions promise beside how it reads (`Inputs` of `running`)

-- whether the report is known
abbrev pub known_in : Post → Bool
known_in x = known_at x.book.stage

-- a turn, with the words that are lent to it
abbrev pub turned_to : Turn → List ℕ → Post
turned_to r room = post_of r.posting room
