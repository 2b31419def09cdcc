-- Request d): what is reported of an input, as a whole, byte by byte and part by part.
-- Assumes nothing.
use Rattle.std.specs.Prelude.{ℕ, ◌≡◌, true, cond, List, [], ◌∷◌, ◌++◌, length, take, replicate, eqb, ltb}
use Rattle.running.specs.Runs.{split, line_room, held_after}
use Rattle.crediting.specs.Ledgers.{Report, report_of}
use Rattle.crediting.specs.Books.{Book, book_of, with_line, at_end, report_in, known_at, empty_book}
use Rattle.posting.specs.declared.Posting.{Posting}

-- ---- the whole input, by its lines

-- "each ended by a newline"
unfoldable pub report_to : List ℕ → List ℕ → Report
report_to room input = report_of room (split input).0 (split input).1

-- ---- byte by byte

-- where the bytes before have left a ledger, with what is held of a line
pub record Post : Type 0 where
  pub book : Book
  pub line : List ℕ
  pub held : ℕ

abbrev pub begun : List ℕ → List ℕ → Post
begun room line = record { book = empty_book room; line = line; held = 0 }

-- a newline ends the line that is held
abbrev pub line_ended : Post → Post
line_ended x = record { book = with_line (take x.held x.line) x.book; line = x.line; held = 0 }

abbrev pub byte_held : Post → ℕ → Post
byte_held x b = let h = held_after x.line x.held b in record { book = x.book; line = h.1; held = h.0 }

abbrev pub after_byte : Post → ℕ → Post
after_byte x b = cond (eqb b 10) (line_ended x) (byte_held x b)

unfoldable pub after_bytes : Post → List ℕ → Post
after_bytes x [] = x
after_bytes x (b ∷ bs) = after_bytes (after_byte x b) bs

-- what no newline ends is a torn line
unfoldable pub report_after : Post → Report
report_after x = report_in (at_end (ltb 0 x.held) x.book)

-- any input, byte by byte with that room for a line, is reported as its lines are
abbrev pub BytesReportedAsLines : Type 0
BytesReportedAsLines = (room line input : List ℕ) → length line ≡ line_room → report_after (after_bytes (begun room line) input) ≡ report_to room input

-- ---- an input that comes in parts

-- a part and then the rest is all of it: the parts may be cut anywhere
abbrev pub PartsArePosted : Type 0
PartsArePosted = (x : Post) (part later : List ℕ) → after_bytes x (part ++ later) ≡ after_bytes (after_bytes x part) later

-- where the report is known it stays, whatever comes
abbrev pub KnownStays : Type 0
KnownStays = (x : Post) (later : List ℕ) → known_at x.book.stage ≡ true → report_after (after_bytes x later) ≡ report_in x.book

-- ---- what the code promises

-- nothing is held yet
abbrev pub no_line : List ℕ
no_line = replicate 28 0

-- a posting, with the words that are lent for its table
abbrev pub post_of : Posting → List ℕ → Post
post_of p room = record { book = book_of p.ledger room; line = p.line; held = p.held }

-- the posting is x
abbrev pub PostIs : Post → Posting → List ℕ → Type 0
PostIs x p room = post_of p room ≡ x
