-- Document 01, "Script program": what a script waits for, and what a line makes of it.
-- Assumes nothing.
use Rattle.std.specs.Prelude.{ℕ, ◌+◌, ◌%◌, ◌^◌, Bool, true, false, cond, ◌==◌, Option, Some, None as no_cut}
use Rattle.rules.specs.declared.ScriptCall.{ScriptCall}
use Rattle.rules.specs.declared.ScriptCall.TheVariants.{Query, Insert, Update, Delete, Begin, Shrink, Back, Step, End, Recover}
use Rattle.lines.specs.declared.Name.{Name}
use Rattle.lines.specs.declared.Name.TheVariants.{Cap, Top, Mul1, Mul2, Key, Fn, At, After}
use Rattle.lines.specs.declared.Line.{Line}
use Rattle.lines.specs.declared.Line.TheVariants.{Number, Event, Cut, Bad}
use Rattle.following.specs.declared.Due.{Due}
use Rattle.following.specs.declared.Due.TheVariants.{Number as a_number, Event as an_event, Nothing as no_more}
use Rattle.following.specs.declared.CutLine.{CutLine}
use Rattle.following.specs.declared.Script.{Script}
use Rattle.following.specs.declared.Asked.{Asked}
use Rattle.following.specs.declared.Asked.TheVariants.{Nothing as ask_nothing, Table as ask_table, Event as ask_event, Bad as ask_end}
use Rattle.following.specs.declared.Reading.{Reading}
use Rattle.following.specs.declared.Ending.{Ending}
use Rattle.following.specs.declared.Ending.TheVariants.{Whole, Bad as Torn, Over}

-- the cut line that an event stands under, or none
abbrev pub Under : Type 0
Under = Option CutLine

abbrev pub cut_after : ℕ → ℕ → Under
cut_after n line = Some (record { stores = n; line = line })

-- "`cap`, `top` (the first k), `mul1`, `mul2`, then events"
abbrev pub start : Script
start = record { due = a_number Cap; event = Begin; first = 0; second = 0; third = 0; cut = no_cut; lines = 0 }

-- ---- what becomes of a line

-- its number, from 1. Of a script with 2^64 lines or more it is counted from 0 again
abbrev pub next_line : Script → ℕ
next_line s = (s.lines + 1) % 2 ^ 64

-- it is read, and the numbers before it have been taken
abbrev pub line_read : Script → Script
line_read s = record s { first = 0; second = 0; third = 0; lines = next_line s }

-- it is read: what is due after it, for which event, the numbers read for that, the cut line over that, and what it asks for
abbrev pub onward : Script → Due → ScriptCall → ℕ → ℕ → ℕ → Under → Asked → Reading
onward s due q a b c under asked =
    record { script = record { due = due; event = q; first = a; second = b; third = c; cut = under; lines = next_line s }; asked = asked }

-- more is to come for a header or an event
abbrev pub waits : Script → Due → ℕ → ℕ → ℕ → Reading
waits s due a b c = onward s due s.event a b c s.cut ask_nothing

-- it makes a header or an event whole, and an event is due
abbrev pub asks : Script → Asked → Reading
asks s asked = onward s an_event s.event 0 0 0 no_cut asked

-- "First bad line: `bad=` its number, from 1, and stop."
abbrev pub stops_at : Script → ℕ → Reading
stops_at s line = onward s no_more s.event 0 0 0 no_cut (ask_end line)

abbrev pub stops : Script → Reading
stops s = stops_at s (next_line s)

-- ---- numbers

-- "`op=insert` or `op=update` with `key`, `fn`, `at`; `op=delete` or `op=query` with `key`": how many numbers an event has
abbrev pub numbers_in : ScriptCall → ℕ
numbers_in (Query key) = 1
numbers_in (Insert key r) = 3
numbers_in (Update key r) = 3
numbers_in (Delete key) = 1
numbers_in Begin = 0
numbers_in Shrink = 0
numbers_in Back = 0
numbers_in Step = 0
numbers_in End = 0
numbers_in Recover = 0

-- an event with its numbers
abbrev pub filled : ScriptCall → ℕ → ℕ → ℕ → ScriptCall
filled (Query key) k f p = Query k
filled (Insert key r) k f p = Insert k (record { function = f; place = p })
filled (Update key r) k f p = Update k (record { function = f; place = p })
filled (Delete key) k f p = Delete k
filled Begin k f p = Begin
filled Shrink k f p = Shrink
filled Back k f p = Back
filled Step k f p = Step
filled End k f p = End
filled Recover k f p = Recover

abbrev pub key_read : Script → ℕ → Reading
key_read s v = cond (numbers_in s.event == 1) (asks s (ask_event (filled s.event v 0 0) s.cut)) (waits s (a_number Fn) v 0 0)

-- "`op=cut` with `after`": the cut line is the one before its `after`
abbrev pub number_read : Script → Name → ℕ → Reading
number_read s Cap v = waits s (a_number Top) v 0 0
number_read s Top v = waits s (a_number Mul1) s.first v 0
number_read s Mul1 v = waits s (a_number Mul2) s.first s.second v
number_read s Mul2 v = asks s (ask_table s.first s.second s.third v)
number_read s Key v = key_read s v
number_read s Fn v = waits s (a_number At) s.first v 0
number_read s At v = asks s (ask_event (filled s.event s.first s.second v) s.cut)
number_read s After v = onward s an_event s.event 0 0 0 (cut_after v s.lines) ask_nothing

-- the names in their order
abbrev pub name_number : Name → ℕ
name_number Cap = 0
name_number Top = 1
name_number Mul1 = 2
name_number Mul2 = 3
name_number Key = 4
name_number Fn = 5
name_number At = 6
name_number After = 7

-- ---- events

abbrev pub event_begun : Script → ScriptCall → Reading
event_begun s q = cond (numbers_in q == 0) (asks s (ask_event q s.cut)) (onward s (a_number Key) q 0 0 0 s.cut ask_nothing)

-- "`op=cut` .., which must stand right before a changing event or recover (else the cut line is the bad line)"
abbrev pub may_be_cut : ScriptCall → Bool
may_be_cut (Query key) = false
may_be_cut (Insert key r) = true
may_be_cut (Update key r) = true
may_be_cut (Delete key) = true
may_be_cut Begin = true
may_be_cut Shrink = true
may_be_cut Back = true
may_be_cut Step = true
may_be_cut End = true
may_be_cut Recover = true

abbrev pub event_read : Script → Under → ScriptCall → Reading
event_read s no_cut q = event_begun s q
event_read s (Some under) q = cond (may_be_cut q) (event_begun s q) (stops_at s under.line)

abbrev pub cut_read : Script → Under → Reading
cut_read s no_cut = waits s (a_number After) 0 0 0
cut_read s (Some under) = stops_at s under.line

abbrev pub no_event_line : Script → Under → ℕ
no_event_line s no_cut = next_line s
no_event_line s (Some under) = under.line

abbrev pub no_event : Script → Under → Reading
no_event s under = stops_at s (no_event_line s under)

-- ---- a line

abbrev pub expected : Script → Due → Line → Reading
expected s (a_number due) (Number n v) = cond (name_number due == name_number n) (number_read s due v) (stops s)
expected s (a_number due) (Event q) = stops s
expected s (a_number due) Cut = stops s
expected s (a_number due) Bad = stops s
expected s an_event (Number n v) = no_event s s.cut
expected s an_event (Event q) = event_read s s.cut q
expected s an_event Cut = cut_read s s.cut
expected s an_event Bad = no_event s s.cut
expected s no_more line = record { script = s; asked = ask_nothing }

unfoldable pub reading_of : Script → Line → Reading
reading_of s line = expected s s.due line

-- ---- the end of the input

-- "A number of 2^64 or more is bad, and so is the line missing where input ends too soon." A torn line, one that no newline ends, is
-- bad too
abbrev pub at_event : Script → Under → Bool → Ending
at_event s under true = Torn (no_event_line s under)
at_event s no_cut false = Whole
at_event s (Some under) false = Torn under.line

abbrev pub ended_at : Script → Due → Bool → Ending
ended_at s (a_number due) torn = Torn (next_line s)
ended_at s an_event torn = at_event s s.cut torn
ended_at s no_more torn = Over

unfoldable pub ending_of : Script → Bool → Ending
ending_of s torn = ended_at s s.due torn
