-- Document 01, "Script program": what is written as an answer. "Lines of name=decimal, no leading zeros, each ended by a
-- newline".
-- Assumes nothing.
use Rattle.std.specs.Prelude.{ℕ}
use Prim.Native.String.{String}
use mathlib.Core.List.{List, [], ◌∷◌, ◌++◌, flat_map}
use Rattle.lines.specs.Lines.{bytes}
use Rattle.lines.specs.Texts.{decimal_text}
use Rattle.rules.specs.Answers.{number_of, change_means, query_means}
use Rattle.rules.specs.Answers.{Verdict}
use Rattle.std.specs.Prelude.{Ok, Err}
use Rattle.replaying.specs.declared.Answer.{Answer}
use Rattle.replaying.specs.declared.Answer.TheVariants.{Nothing, Created, Changed, Kept, Found, Events, Bad}

-- a line: its name and its number
abbrev pub Line : Type 0
Line = String × ℕ

-- values under their names, as far as there are both
abbrev pub under_names : List String → List ℕ → List Line
under_names [] vs = []
under_names (n ∷ ns) [] = []
under_names (n ∷ ns) (v ∷ vs) = (n, v) ∷ under_names ns vs

-- a call's number, and its values under their names
abbrev pub answer_lines : List String → ℕ → List ℕ → List Line
answer_lines names number values = ("answer", number) ∷ under_names names values

-- a change: "answer=0, stores=4". A query: "answer=0, fn=10, at=20, probes=1", and with document 02, request e), "`word=` and `level=` (0, 1, 2)
-- after `probes=`"
abbrev pub change_lines : ℕ → List ℕ → List Line
change_lines = answer_lines ("stores" ∷ [])

abbrev pub found_lines : ℕ → List ℕ → List Line
found_lines = answer_lines ("fn" ∷ "at" ∷ "probes" ∷ "word" ∷ "level" ∷ [])

-- a made table "made=0", and one that is not made its refusal: "After `made=13` comes `events=0`"
abbrev pub created_lines : Verdict → List Line
created_lines (Ok tt) = ("made", 0) ∷ []
created_lines (Err e) = ("made", number_of e) ∷ ("events", 0) ∷ []

-- an answer's lines. "An event under a cut line adds `kept=`, the stores made, after `stores=`". At the end "events=3", or "First bad
-- line: `bad=` its number"
abbrev pub lines_of : Answer → List Line
lines_of Nothing = []
lines_of (Created v) = created_lines v
lines_of (Changed r) = change_lines (change_means r).number (change_means r).values
lines_of (Kept r k) = change_lines (change_means r).number (change_means r).values ++ (("kept", k) ∷ [])
lines_of (Found q) = found_lines (query_means q).number (query_means q).values
lines_of (Events n) = ("events", n) ∷ []
lines_of (Bad n) = ("bad", n) ∷ []

-- a line and an answer as bytes. A newline is byte 10
abbrev pub line_text : Line → List ℕ
line_text line = bytes line.0 ++ bytes "=" ++ decimal_text line.1 ++ (10 ∷ [])

unfoldable pub text_of : Answer → List ℕ
text_of answer = flat_map line_text (lines_of answer)

-- the bytes of a buffer that has room for every answer
abbrev pub text_bytes : ℕ
text_bytes = 160
