-- Document 01, "Script program": what a line of the script says.
-- "Lines of name=decimal, no leading zeros, each ended by a newline": a line here is its bytes without the newline.
-- Assumes nothing.
use Rattle.std.specs.Prelude.{ℕ, ◌+◌, ◌-◌, ◌*◌, ◌^◌, Bool, true, false, not, ◌&&◌, cond, List, [], ◌∷◌, map, length, drop, eqb, leb, ltb}
use Prim.Native.Char.{code}
use Prim.Native.String.{String, [] as no_text, ◌∷◌ as ◌then◌}
use Rattle.std.proofs.Math.Option.{Option, none, some}
use Rattle.rules.specs.Choice.{all, given}
use Rattle.rules.specs.declared.Record.{Record}
use Rattle.rules.specs.declared.ScriptCall.{ScriptCall}
use Rattle.rules.specs.declared.ScriptCall.TheVariants.{Query, Insert, Update, Delete, Begin, Shrink, Back, Step, End, Recover}
use Rattle.lines.specs.declared.Name.{Name}
use Rattle.lines.specs.declared.Name.TheVariants.{Cap, Top, Mul1, Mul2, Key, Fn, At, After}
use Rattle.lines.specs.declared.Line.{Line}
use Rattle.lines.specs.declared.Line.TheVariants.{Number, Event, Cut, Bad}

-- a text as bytes
abbrev pub bytes : String → List ℕ
bytes no_text = []
bytes (c then s) = code c ∷ bytes s

-- "`cap`, `top` (the first k), `mul1`, `mul2`, then events", "with `key`, `fn`, `at`", "with `after`"
abbrev pub name_text : Name → String
name_text Cap = "cap="
name_text Top = "top="
name_text Mul1 = "mul1="
name_text Mul2 = "mul2="
name_text Key = "key="
name_text Fn = "fn="
name_text At = "at="
name_text After = "after="

-- "`op=insert` or `op=update` ..; `op=delete` or `op=query` ..; `op=begin`, `op=step`, `op=end`, `op=recover`"; document 02, request f):
-- "Scripts gain `op=shrink` and `op=back`."
abbrev pub event_text : ScriptCall → String
event_text (Insert key r) = "op=insert"
event_text (Update key r) = "op=update"
event_text (Delete key) = "op=delete"
event_text (Query key) = "op=query"
event_text Begin = "op=begin"
event_text Shrink = "op=shrink"
event_text Back = "op=back"
event_text Step = "op=step"
event_text End = "op=end"
event_text Recover = "op=recover"

-- an event as its line says it: its numbers, which stand in the lines after it, are still 0
abbrev pub no_record : Record
no_record = record { function = 0; place = 0 }

abbrev pub blank : ScriptCall → ScriptCall
blank (Insert key r) = Insert 0 no_record
blank (Update key r) = Update 0 no_record
blank (Delete key) = Delete 0
blank (Query key) = Query 0
blank Begin = Begin
blank Shrink = Shrink
blank Back = Back
blank Step = Step
blank End = End
blank Recover = Recover

-- what a line begins with; "`op=cut` with `after`"
abbrev pub beginning : Line → String
beginning (Number n v) = name_text n
beginning (Event q) = event_text q
beginning Cut = "op=cut"
beginning Bad = ""

-- every line that is not bad, with its number still 0. No text begins with another, so that their order says nothing
abbrev pub rows : List Line
rows =
    Number Key 0
    ∷ Number Fn 0
    ∷ Number At 0
    ∷ Event (Insert 0 no_record)
    ∷ Event (Update 0 no_record)
    ∷ Event (Delete 0)
    ∷ Event (Query 0)
    ∷ Event Begin
    ∷ Event Shrink
    ∷ Event Back
    ∷ Event Step
    ∷ Event End
    ∷ Event Recover
    ∷ Cut
    ∷ Number After 0
    ∷ Number Cap 0
    ∷ Number Top 0
    ∷ Number Mul1 0
    ∷ Number Mul2 0
    ∷ []

-- whether a line begins with a text
abbrev pub begins : List ℕ → List ℕ → Bool
begins [] line = true
begins (x ∷ xs) [] = false
begins (x ∷ xs) (y ∷ ys) = eqb x y && begins xs ys

-- a decimal: digits, "no leading zeros". "A number of 2^64 or more is bad"
abbrev pub is_digit : ℕ → Bool
is_digit d = leb 48 d && leb d 57

abbrev pub value_from : ℕ → List ℕ → ℕ
value_from v [] = v
value_from v (d ∷ ds) = value_from (10 * v + (d - 48)) ds

abbrev pub no_leading_zero : List ℕ → Bool
no_leading_zero [] = false
no_leading_zero (d ∷ []) = true
no_leading_zero (d ∷ (e ∷ ds)) = not (eqb d 48)

unfoldable pub decimal_of : List ℕ → Option ℕ
decimal_of ds = given (all (no_leading_zero ds ∷ all (map is_digit ds) ∷ ltb (value_from 0 ds) (2 ^ 64) ∷ [])) (value_from 0 ds)

-- what a line says that begins as one of the rows does, and goes on so: with a decimal after a name, and with nothing after an event
abbrev pub numbered : Name → Option ℕ → Line
numbered n (some v) = Number n v
numbered n none = Bad

abbrev pub unless_more : List ℕ → Line → Line
unless_more [] l = l
unless_more (b ∷ bs) l = Bad

abbrev pub whole_line : Line → List ℕ → Line
whole_line (Number n v) rest = numbered n (decimal_of rest)
whole_line (Event q) rest = unless_more rest (Event q)
whole_line Cut rest = unless_more rest Cut
whole_line Bad rest = unless_more rest Bad

-- a line says what the first row does that it begins as. Any other line is bad
abbrev pub said_by : List Line → List ℕ → Line
said_by [] line = Bad
said_by (l ∷ ls) line =
    let text = bytes (beginning l) in
    cond (begins text line) (whole_line l (drop (length text) line)) (said_by ls line)

unfoldable pub line_of : List ℕ → Line
line_of line = said_by rows line
