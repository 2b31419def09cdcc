-- The texts of the lines that document 01 names, and that they are the good lines: no other bytes say anything, and each says
-- just the line whose text it is. The proof of a statement bears its name, in proofs/Texts.
-- Assumes nothing.
use Rattle.std.specs.Prelude.{ℕ, zero, suc, ◌+◌, ◌/◌, ◌%◌, ◌^◌, ◌<◌, ◌≡◌, cond, List, [], ◌∷◌, ◌++◌, ltb}
use Rattle.lines.specs.Lines.{bytes, blank, beginning, line_of}
use Rattle.lines.specs.declared.Line.{Line}
use Rattle.lines.specs.declared.Line.TheVariants.{Number, Event, Cut, Bad}

-- a number's digits, at most n of them: the digits of its tenth, where it is not below 10, and then its last one. `rest` is computed
-- only where it is asked for, so that a number takes no more steps than it has digits
unfoldable pub digits_in : ℕ → ℕ → List ℕ
digits_in zero v = []
digits_in (suc n) v = let rest = digits_in n (v / 10) in cond (ltb v 10) [] rest ++ ((48 + v % 10) ∷ [])

-- all of its digits, which are at most v + 1: `0` for 0, and "no leading zeros"
unfoldable pub decimal_text : ℕ → List ℕ
decimal_text v = digits_in (suc v) v

-- "Lines of name=decimal, no leading zeros", and the events. A bad line has no text
abbrev pub decimal_after : Line → List ℕ
decimal_after (Number n v) = decimal_text v
decimal_after (Event q) = []
decimal_after Cut = []
decimal_after Bad = []

abbrev pub line_text : Line → List ℕ
line_text l = bytes (beginning l) ++ decimal_after l

-- "A number of 2^64 or more is bad". The numbers of an event stand in other lines
abbrev pub Good : Line → Type 0
Good (Number n v) = v < 2 ^ 64
Good (Event q) = blank q ≡ q
Good Cut = Unit {0}
Good Bad = ⊥

-- the text of a good line says that line
abbrev pub TextsSay : Type 0
TextsSay = (l : Line) → Good l → line_of (line_text l) ≡ l

-- bytes that are not bad are the text of a good line, the one that they say
abbrev pub OnlyTextsSay : Type 0
OnlyTextsSay = (line : List ℕ) → (line_of line ≡ Bad → ⊥) → Good (line_of line) × (line ≡ line_text (line_of line))
