-- Document 01, "Script program", said a second time, in facts: what is answered to each event, which of its stores are made, and what
-- is counted. No code leans on this. The definitions of `Events` and `Replays` are proved to keep it.
-- Assumes nothing.
use Rattle.std.specs.Prelude.{◌≡◌, ℕ, ◌+◌, ◌%◌, ◌^◌, ◌<◌, ◌≤◌, Bool, ◌⊎◌, List, [], ◌∷◌, ◌++◌, take, drop, ◌≢◌}
use Rattle.rules.specs.Words.{word, words_for}
use Rattle.rules.specs.Answers.{change_means, query_means, verdict_means}
use Rattle.rules.specs.Results.{change_result, query_result, create_result, make_result}
use Rattle.rules.specs.declared.ScriptCall.{ScriptCall}
use Rattle.rules.specs.declared.ScriptCall.TheVariants.{Query}
use Rattle.rules.specs.Answers.{Change}
use Rattle.rules.specs.Answers.{Query as QueryAnswer}
use Rattle.rules.specs.declared.Refusal.{Refusal}
use Rattle.rules.specs.declared.Refusal.TheVariants.{BadCreation}
use Rattle.std.specs.Prelude.{Ok, Err}
use Rattle.following.specs.Scripts.{ending_of}
use Rattle.following.specs.Sentences.{Changing}
use Rattle.following.specs.declared.Ending.TheVariants.{Whole, Bad as Torn, Over}
use Rattle.following.specs.Scripts.{Under}
use Rattle.following.specs.Scripts.{cut_after}
use Rattle.std.specs.Prelude.{None as no_cut}
use Rattle.following.specs.declared.Due.TheVariants.{Nothing as no_more}
use Rattle.following.specs.declared.Script.{Script}
use Rattle.following.specs.declared.Asked.TheVariants.{Nothing as ask_nothing, Table as ask_table, Event as ask_event, Bad as ask_end}
use Rattle.replaying.specs.Events.{lent, call_of}
use Rattle.replaying.specs.Replays.{begun, table_of, asked_of, finish_of}
use Rattle.replaying.specs.declared.Answer.{Answer}
use Rattle.replaying.specs.declared.Answer.TheVariants.{Nothing, Created, Changed, Kept, Found, Events, Bad}
use Rattle.replaying.specs.declared.Replay.{Replay}

-- ---- changing events and recover

-- the event's call on the table, with its own list of 20 words: its answer, with its number and its stores, and the list as it left it
pub record Tells (room : List ℕ) (p : Replay) (q : ScriptCall) (r : Change) (number stores : ℕ) : Type 0 where
  pub own : (change_result (table_of p room) lent (call_of q)).0 ≡ r
  pub means : change_means r ≡ record { number = number; values = stores ∷ [] }

abbrev pub list_after : List ℕ → Replay → ScriptCall → List ℕ
list_after room p q = (change_result (table_of p room) lent (call_of q)).1

-- this is answered, so many of its stores are made, in the table's words alone, and one event more is counted
pub record Answered (room : List ℕ) (p : Replay) (next : Script) (q : ScriptCall) (under : Under) (answer : Answer) (made : ℕ) : Type 0 where
  pub said : (asked_of room p next (ask_event q under)).answer ≡ answer
  pub words : (asked_of room p next (ask_event q under)).room ≡ (make_result (table_of p room) (list_after room p q) made).1 ++ drop p.words room
  pub count : (asked_of room p next (ask_event q under)).replay.events ≡ (p.events + 1) % 2 ^ 64
  pub onward : ((asked_of room p next (ask_event q under)).replay.script ≡ next) × ((asked_of room p next (ask_event q under)).replay.words ≡ p.words)

-- "answer=0, stores=4": the number and the stores, all of which are made
abbrev pub ChangesAnswered : Type 0
ChangesAnswered = (room : List ℕ) (p : Replay) (next : Script) (q : ScriptCall) → Changing q → (r : Change) (number stores : ℕ)
    → Tells room p q r number stores → Answered room p next q no_cut (Changed r) stores

-- "lets only that many of its stores be made, or all if there are fewer": as many as these
abbrev pub LetsMake : ℕ → ℕ → ℕ → Type 0
LetsMake n stores made = ((made ≡ n) × (n ≤ stores)) ⊎ ((made ≡ stores) × (stores ≤ n))

-- "An event under a cut line adds `kept=`, the stores made, after `stores=`"
abbrev pub CutChangesAnswered : Type 0
CutChangesAnswered = (room : List ℕ) (p : Replay) (next : Script) (q : ScriptCall) → Changing q → (r : Change) (n line number stores made : ℕ)
    → Tells room p q r number stores → LetsMake n stores made → Answered room p next q (cut_after n line) (Kept r made) made

-- ---- queries

-- "answer=0, fn=10, at=20, probes=1", and `word=` and `level=`: the answer that has the number, the record, the count and where the key stands.
-- The words stay, and one event more is counted
pub record QueryAnswered (room : List ℕ) (p : Replay) (next : Script) (key : ℕ) (under : Under) (number f place count word level : ℕ) : Type 0 where
  pub answer : QueryAnswer
  pub said : (asked_of room p next (ask_event (Query key) under)).answer ≡ Found answer
  pub means : query_means answer ≡ record { number = number; values = f ∷ place ∷ count ∷ word ∷ level ∷ [] }
  pub words : (asked_of room p next (ask_event (Query key) under)).room ≡ room
  pub counted : (asked_of room p next (ask_event (Query key) under)).replay.events ≡ (p.events + 1) % 2 ^ 64

abbrev pub QueriesAnswered : Type 0
QueriesAnswered = (room : List ℕ) (p : Replay) (next : Script) (key : ℕ) (under : Under) (number f place count word level : ℕ)
    → query_means (query_result (table_of p room) key) ≡ record { number = number; values = f ∷ place ∷ count ∷ word ∷ level ∷ [] }
    → QueryAnswered room p next key under number f place count word level

-- ---- lines that ask for nothing, bad lines, and the end

-- nothing is answered, done or counted
abbrev pub NothingAnswered : Type 0
NothingAnswered = (room : List ℕ) (p : Replay) (next : Script)
    → asked_of room p next ask_nothing ≡ record { replay = record { script = next; words = p.words; events = p.events }; room = room; answer = Nothing }

-- "First bad line: `bad=` its number"
abbrev pub BadAnswered : Type 0
BadAnswered = (room : List ℕ) (p : Replay) (next : Script) (line : ℕ)
    → ((asked_of room p next (ask_end line)).answer ≡ Bad line) × ((asked_of room p next (ask_end line)).room ≡ room)

-- an answer after which the script goes on: no line was bad, and no table was refused
pub record GoesOn (a : Answer) : Type 0 where
  pub good : (n : ℕ) → a ≢ Bad n
  pub made : (e : Refusal) → a ≢ Created (Err e)

-- "events=3": how many were answered, from none. A bad line at the end is told; after a bad line, and without a table, nothing is
abbrev pub EndAnswered : Type 0
EndAnswered = (begun.events ≡ 0) × ((p : Replay) (torn : Bool)
    → (ending_of p.script torn ≡ Whole → finish_of p torn ≡ Events p.events) × ((line : ℕ) → ending_of p.script torn ≡ Torn line
    → finish_of p torn ≡ Bad line)
    × (ending_of p.script torn ≡ Over → finish_of p torn ≡ Nothing))

-- ---- the table

-- creation in the first of the lent words answers this number
abbrev pub Verdicts : List ℕ → ℕ → ℕ → ℕ → ℕ → ℕ → Type 0
Verdicts room c k mul1 mul2 number = verdict_means (create_result (take (words_for c) room) 1 c k mul1 mul2).0 ≡ record { number = number; values = [] }

-- `made=0`: the table has its words, and events are read
abbrev pub TableMade : Type 0
TableMade = (room : List ℕ) (p : Replay) (next : Script) (c k mul1 mul2 : ℕ) → c ≤ 8 → Verdicts room c k mul1 mul2 0
    → ((asked_of room p next (ask_table c k mul1 mul2)).answer ≡ Created (Ok tt))
    × ((asked_of room p next (ask_table c k mul1 mul2)).replay.words ≡ words_for c)
    × ((asked_of room p next (ask_table c k mul1 mul2)).replay.script ≡ next)
    × ((asked_of room p next (ask_table c k mul1 mul2)).replay.events ≡ p.events)
    × ((asked_of room p next (ask_table c k mul1 mul2)).room ≡ (create_result (take (words_for c) room) 1 c k mul1 mul2).1 ++ drop (words_for c) room)

-- "scripts make form 1": document 02, request g). It stands in the first word
abbrev pub ScriptsMakeForm1 : Type 0
ScriptsMakeForm1 = (room : List ℕ) (p : Replay) (next : Script) (c k mul1 mul2 : ℕ)
    → (asked_of room p next (ask_table c k mul1 mul2)).answer ≡ Created (Ok tt) → word (asked_of room p next (ask_table c k mul1 mul2)).room 0 ≡ 1

-- "Program cap is at most 8; a larger one gives `made=13`." "and no event line is read": nothing more is due
abbrev pub TableNotMade : Type 0
TableNotMade = (room : List ℕ) (p : Replay) (next : Script) (c k mul1 mul2 : ℕ) → (8 < c) ⊎ ((c ≤ 8) × Verdicts room c k mul1 mul2 13)
    → ((asked_of room p next (ask_table c k mul1 mul2)).answer ≡ Created (Err BadCreation))
    × ((asked_of room p next (ask_table c k mul1 mul2)).replay.script.due ≡ no_more)
