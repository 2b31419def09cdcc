-- Document 01, "Script program": what a line makes of a script and its table, and what is answered.
-- Assumes nothing.
use Rattle.std.specs.Prelude.{◌≡◌, ℕ, ◌+◌, ◌%◌, ◌^◌, Bool, cond, List, ◌++◌, take, drop, nat_le}
use Rattle.rules.specs.Words.{Table, words_for}
use Rattle.rules.specs.Results.{create_result}
use Rattle.rules.specs.declared.ScriptCall.TheVariants.{Begin}
use Rattle.rules.specs.declared.Refusal.TheVariants.{BadCreation}
use Rattle.rules.specs.Answers.{Verdict}
use Rattle.std.specs.Prelude.{Ok, Err}
use Rattle.lines.specs.declared.Line.{Line}
use Rattle.following.specs.Scripts.{start, reading_of, ending_of}
use Rattle.following.specs.declared.Due.TheVariants.{Nothing as no_more}
use Rattle.std.specs.Prelude.{None as no_cut}
use Rattle.following.specs.declared.Script.{Script}
use Rattle.following.specs.declared.Asked.{Asked}
use Rattle.following.specs.declared.Asked.TheVariants.{Nothing as ask_nothing, Table as ask_table, Event as ask_event, Bad as ask_end}
use Rattle.following.specs.declared.Ending.{Ending}
use Rattle.following.specs.declared.Ending.TheVariants.{Whole, Bad as Torn, Over}
use Rattle.replaying.specs.Events.{answer_to, table_after}
use Rattle.replaying.specs.declared.Answer.{Answer}
use Rattle.replaying.specs.declared.Answer.TheVariants.{Nothing, Created, Events, Bad}
use Rattle.replaying.specs.declared.Replay.{Replay}
use Rattle.replaying.specs.declared.Turn.{Turn}

-- before the first line
abbrev pub begun : Replay
begun = record { script = start; words = 0; events = 0 }

-- the table is in the first of the lent words; the others stay
abbrev pub in_room : ℕ → List ℕ → Table → List ℕ
in_room n room t = t ++ drop n room

-- what a line leaves: the replay, the lent words and the answer
pub record Turned : Type 0 where
  pub replay : Replay
  pub room : List ℕ
  pub answer : Answer

-- ---- events

-- where a replay stands after a line: in the script; with one event more answered; with nothing more to be read
abbrev pub moved : Replay → Script → Replay
moved p next = record { script = next; words = p.words; events = p.events }

abbrev pub counted : Replay → Script → Replay
counted p next = record { script = next; words = p.words; events = (p.events + 1) % 2 ^ 64 }

abbrev pub stopped : Replay → Script → Replay
stopped p next = moved p (record { due = no_more; event = Begin; first = 0; second = 0; third = 0; cut = no_cut; lines = next.lines })

-- ---- the table

-- "Program cap is at most 8; a larger one gives `made=13`." "After `made=13` comes `events=0`, and no event line is read."
-- The table's form is 1, below: document 02, request g), "scripts make form 1"
abbrev pub created : Replay → Script → List ℕ → ℕ → Verdict × Table → Turned
created p next room c (Ok tt, t) =
    record { replay = record { script = next; words = words_for c; events = p.events }; room = in_room (words_for c) room t; answer = Created (Ok tt) }
created p next room c (Err e, t) =
    record { replay = stopped p next; room = in_room (words_for c) room t; answer = Created (Err e) }

abbrev pub too_large : Replay → Script → List ℕ → Turned
too_large p next room = record { replay = stopped p next; room = room; answer = Created (Err BadCreation) }

-- ---- a line

abbrev pub table_of : Replay → List ℕ → Table
table_of p room = take p.words room

abbrev pub asked_of : List ℕ → Replay → Script → Asked → Turned
asked_of room p next ask_nothing = record { replay = moved p next; room = room; answer = Nothing }
asked_of room p next (ask_end line) = record { replay = moved p next; room = room; answer = Bad line }
asked_of room p next (ask_table c k mul1 mul2) =
    cond (nat_le c 8) (created p next room c (create_result (take (words_for c) room) 1 c k mul1 mul2)) (too_large p next room)
asked_of room p next (ask_event q under) =
    record {
      replay = counted p next;
      room = in_room p.words room (table_after (table_of p room) q under);
      answer = answer_to (table_of p room) q under;
    }

unfoldable pub turn_of : List ℕ → Replay → Line → Turned
turn_of room p line = let r = reading_of p.script line in asked_of room p r.script r.asked

-- ---- the end of the input

abbrev pub finished : Replay → Ending → Answer
finished p Whole = Events p.events
finished p (Torn line) = Bad line
finished p Over = Nothing

unfoldable pub finish_of : Replay → Bool → Answer
finish_of p torn = finished p (ending_of p.script torn)

-- ---- what the code promises of a turn, which leaves these words

pub record TurnIs (x : Turned) (r : Turn) (left : List ℕ) : Type 0 where
  pub replay : r.replay ≡ x.replay
  pub answer : r.answer ≡ x.answer
  pub room : left ≡ x.room
