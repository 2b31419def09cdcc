-- Document 01, "Script program", said a second time, in facts: which lines an event has and in which order, which events a cut line
-- may stand before, and which line is the bad one. No code leans on this. The definitions of `Scripts` are proved to keep it, so that
-- a slip there is seen even where the code follows it.
-- Assumes nothing.
use Rattle.std.specs.Prelude.{◌≡◌, ℕ, ◌+◌, ◌%◌, ◌^◌, Bool, true, false, List, [], ◌∷◌, ◌++◌, length, drop, ◌≢◌, None as no_cut}
use Rattle.rules.specs.declared.ScriptCall.{ScriptCall}
use Rattle.rules.specs.declared.ScriptCall.TheVariants.{Query, Insert, Update, Delete, Begin, Shrink, Back, Step, End, Recover}
use Rattle.lines.specs.Lines.{no_record, blank}
use Rattle.lines.specs.declared.Name.{Name}
use Rattle.lines.specs.declared.Name.TheVariants.{Cap, Top, Mul1, Mul2, Key, Fn, At, After}
use Rattle.lines.specs.declared.Line.{Line}
use Rattle.lines.specs.declared.Line.TheVariants.{Number, Event, Cut, Bad}
use Rattle.following.specs.declared.Due.TheVariants.{Event as an_event, Nothing as no_more}
use Rattle.following.specs.declared.Script.{Script}
use Rattle.following.specs.declared.Asked.{Asked}
use Rattle.following.specs.declared.Asked.TheVariants.{Nothing as ask_nothing, Table as ask_table, Event as ask_event, Bad as ask_end}
use Rattle.following.specs.declared.Ending.TheVariants.{Whole, Bad as Torn, Over}
use Rattle.following.specs.Scripts.{cut_after, start, reading_of, ending_of}

-- ---- the lines of a script, in their order

-- "`cap`, `top` (the first k), `mul1`, `mul2`, then events"
abbrev pub header_names : List Name
header_names = Cap ∷ Top ∷ Mul1 ∷ Mul2 ∷ []

-- "`op=insert` or `op=update` with `key`, `fn`, `at`; `op=delete` or `op=query` with `key`; `op=begin`, `op=step`, `op=end`,
-- `op=recover`; `op=cut` with `after`"
abbrev pub names_of : ScriptCall → List Name
names_of (Query key) = Key ∷ []
names_of (Insert key r) = Key ∷ Fn ∷ At ∷ []
names_of (Update key r) = Key ∷ Fn ∷ At ∷ []
names_of (Delete key) = Key ∷ []
names_of Begin = []
names_of Shrink = []
names_of Back = []
names_of Step = []
names_of End = []
names_of Recover = []

abbrev pub names_after : Line → List Name
names_after (Number n v) = []
names_after (Event q) = names_of q
names_after Cut = After ∷ []
names_after Bad = []

-- numbers under their names, as far as there are both
abbrev pub numbered : List Name → List ℕ → List Line
numbered [] vs = []
numbered (n ∷ ns) [] = []
numbered (n ∷ ns) (v ∷ vs) = Number n v ∷ numbered ns vs

-- the first lines of an event or a cut: its `op` line, and some of its numbers
abbrev pub event_lines : Line → List ℕ → List Line
event_lines o vs = o ∷ numbered (names_after o) vs

-- an event: its `op` line, which says no number, and its numbers
abbrev pub numbers_of : ScriptCall → List ℕ
numbers_of (Query key) = key ∷ []
numbers_of (Insert key r) = key ∷ r.function ∷ r.place ∷ []
numbers_of (Update key r) = key ∷ r.function ∷ r.place ∷ []
numbers_of (Delete key) = key ∷ []
numbers_of Begin = []
numbers_of Shrink = []
numbers_of Back = []
numbers_of Step = []
numbers_of End = []
numbers_of Recover = []

abbrev pub call_lines : ScriptCall → List Line
call_lines q = event_lines (Event (blank q)) (numbers_of q)

abbrev pub cut_lines : ℕ → List Line
cut_lines n = event_lines Cut (n ∷ [])

-- "a changing event or recover"
abbrev pub Changing : ScriptCall → Type 0
Changing (Query key) = ⊥
Changing (Insert key r) = Unit {0}
Changing (Update key r) = Unit {0}
Changing (Delete key) = Unit {0}
Changing Begin = Unit {0}
Changing Shrink = Unit {0}
Changing Back = Unit {0}
Changing Step = Unit {0}
Changing End = Unit {0}
Changing Recover = Unit {0}

-- ---- lines read one after the other

-- what is asked for, before all that is asked for later
abbrev pub asking : Asked → List Asked → List Asked
asking ask_nothing later = later
asking (ask_table c k mul1 mul2) later = ask_table c k mul1 mul2 ∷ later
asking (ask_event q under) later = ask_event q under ∷ later
asking (ask_end line) later = ask_end line ∷ later

-- where the script stands after them, and all that they ask for
abbrev pub read_all : Script → List Line → Script × List Asked
read_all s [] = (s, [])
read_all s (l ∷ ls) = let r = reading_of s l in let later = read_all r.script ls in (later.0, asking r.asked later.1)

-- the number of the n-th line from here. Of a script with 2^64 lines or more they are counted from 0 again
abbrev pub line_from : Script → ℕ → ℕ
line_from s n = (s.lines + n) % 2 ^ 64

-- an event is due, and no cut line stands before it
pub record EventDue (s : Script) : Type 0 where
  pub due : s.due ≡ an_event
  pub cut : s.cut ≡ no_cut

-- these lines ask for this alone, and then an event is due
pub record Asks (s : Script) (lines : List Line) (asked : Asked) : Type 0 where
  pub alone : (read_all s lines).1 ≡ asked ∷ []
  pub next : EventDue (read_all s lines).0
  pub count : (read_all s lines).0.lines ≡ line_from s (length lines)

-- after these lines a line is bad: this number is told for it, and nothing more is due
pub record BadAfter (s : Script) (lines : List Line) (l : Line) (number : ℕ) : Type 0 where
  pub alone : (read_all s (lines ++ (l ∷ []))).1 ≡ ask_end number ∷ []
  pub over : (read_all s (lines ++ (l ∷ []))).0.due ≡ no_more

-- and so is the end of the input there, with a torn line or none
abbrev pub EndsBad : Script → List Line → ℕ → Type 0
EndsBad s lines number = (torn : Bool) → ending_of (read_all s lines).0 torn ≡ Torn number

-- a line with no number of that name; a line that begins no event; one that begins no changing event and no recover
abbrev pub NotNamed : Name → Line → Type 0
NotNamed name l = (v : ℕ) → l ≢ Number name v

abbrev pub NoEvent : Line → Type 0
NoEvent l = ((q : ScriptCall) → l ≢ Event q) × (l ≢ Cut)

abbrev pub NoChange : Line → Type 0
NoChange l = (q : ScriptCall) → Changing q → l ≢ Event q

-- ---- the sentences

-- "`cap`, `top` (the first k), `mul1`, `mul2`, then events"
abbrev pub HeaderRead : Type 0
HeaderRead = (c k mul1 mul2 : ℕ) → Asks start (numbered header_names (c ∷ k ∷ mul1 ∷ mul2 ∷ [])) (ask_table c k mul1 mul2)

-- each event with its lines, in their order
abbrev pub EventsRead : Type 0
EventsRead = (s : Script) → EventDue s → (q : ScriptCall) → Asks s (call_lines q) (ask_event q no_cut)

-- the same of the events with numbers, spelled out: key, function and place in their order
abbrev pub CallsNamed : Type 0
CallsNamed = (s : Script) → EventDue s
    → ((key f place : ℕ) → Asks s (Event (Insert 0 no_record) ∷ Number Key key ∷ Number Fn f ∷ Number At place ∷ [])
    (ask_event (Insert key (record { function = f; place = place })) no_cut))
    × ((key f place : ℕ) → Asks s (Event (Update 0 no_record) ∷ Number Key key ∷ Number Fn f ∷ Number At place ∷ [])
    (ask_event (Update key (record { function = f; place = place })) no_cut))
    × ((key : ℕ) → Asks s (Event (Delete 0) ∷ Number Key key ∷ []) (ask_event (Delete key) no_cut))
    × ((key : ℕ) → Asks s (Event (Query 0) ∷ Number Key key ∷ []) (ask_event (Query key) no_cut))

-- "`op=cut` with `after`, which must stand right before a changing event or recover .. and lets only that many of its stores be
-- made": each of them, with its lines
abbrev pub CutEventsRead : Type 0
CutEventsRead = (s : Script) → EventDue s → (n : ℕ) (q : ScriptCall) → Changing q
    → Asks s (cut_lines n ++ call_lines q) (ask_event q (cut_after n (line_from s 1)))

-- "(else the cut line is the bad line)": before a query, another cut line, any other line, and at the end
abbrev pub CutLineElseBad : Type 0
CutLineElseBad = (s : Script) → EventDue s → (n : ℕ)
    → ((l : Line) → NoChange l → BadAfter s (cut_lines n) l (line_from s 1)) × EndsBad s (cut_lines n) (line_from s 1)

-- "First bad line: `bad=` its number, from 1, and stop." "and so is the line missing where input ends too soon". In the header: what
-- is not the next number of it
abbrev pub HeaderInOrder : Type 0
HeaderInOrder = (vs : List ℕ) (name : Name) (later : List Name) → drop (length vs) header_names ≡ name ∷ later
    → ((l : Line) → NotNamed name l → BadAfter start (numbered header_names vs) l (length vs + 1))
    × EndsBad start (numbered header_names vs) (length vs + 1)

-- in an event, or in a cut line: what is not the next number of it
abbrev pub NumbersInOrder : Type 0
NumbersInOrder = (s : Script) → EventDue s → (o : Line) (vs : List ℕ) (name : Name) (later : List Name)
    → drop (length vs) (names_after o) ≡ name ∷ later
    → ((l : Line) → NotNamed name l → BadAfter s (event_lines o vs) l (line_from s (length vs + 2)))
    × EndsBad s (event_lines o vs) (line_from s (length vs + 2))

-- the same of an event under a cut line
abbrev pub CutNumbersInOrder : Type 0
CutNumbersInOrder = (s : Script) → EventDue s → (n : ℕ) (q : ScriptCall) → Changing q → (vs : List ℕ) (name : Name) (later : List Name)
    → drop (length vs) (names_of q) ≡ name ∷ later
    → ((l : Line) → NotNamed name l → BadAfter s (cut_lines n ++ event_lines (Event q) vs) l (line_from s (length vs + 4)))
    × EndsBad s (cut_lines n ++ event_lines (Event q) vs) (line_from s (length vs + 4))

-- where an event is due: what begins none, and a torn line. An input that ends there ends well
abbrev pub EventElseBad : Type 0
EventElseBad = (s : Script) → EventDue s → ((l : Line) → NoEvent l
    → BadAfter s [] l (line_from s 1)) × (ending_of s true ≡ Torn (line_from s 1)) × (ending_of s false ≡ Whole)

-- "and stop": no later line asks for anything, and the end says nothing more
abbrev pub StopsForGood : Type 0
StopsForGood = (s : Script) → s.due ≡ no_more → ((ls : List Line) → read_all s ls ≡ (s, [])) × ((torn : Bool) → ending_of s torn ≡ Over)
