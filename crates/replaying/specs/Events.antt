-- Document 01, "Script program": what an event does to a table, and what is answered to it.
-- Assumes nothing.
use Rattle.std.specs.Prelude.{◌≡◌, ℕ, min, List, replicate}
use Rattle.std.proofs.Math.Option.{Option, none, some}
use Rattle.rules.specs.Words.{Table}
use Rattle.rules.specs.Calls.{Call, query, insert, update, delete, begin, shrink, back, step, end, recover}
use Rattle.rules.specs.Results.{change_result, query_result, make_result}
use Rattle.rules.specs.Histories.{Event, whole, cut, reported, after}
use Rattle.rules.specs.declared.ScriptCall.{ScriptCall}
use Rattle.rules.specs.declared.ScriptCall.TheVariants.{Query, Insert, Update, Delete, Begin, Shrink, Back, Step, End, Recover}
use Rattle.rules.specs.Answers.{Change}
use Rattle.following.specs.Scripts.{Under}
use Rattle.std.specs.Prelude.{Some, None}
use Rattle.replaying.specs.declared.Answer.{Answer}
use Rattle.replaying.specs.declared.Answer.TheVariants.{Changed, Kept, Found}

-- the list that an event's stores are written to
abbrev pub lent : List ℕ
lent = replicate 20 0

-- the call that an event makes
abbrev pub call_of : ScriptCall → Call
call_of (Query key) = query key
call_of (Insert key r) = insert key r
call_of (Update key r) = update key r
call_of (Delete key) = delete key
call_of Begin = begin
call_of Shrink = shrink
call_of Back = back
call_of Step = step
call_of End = end
call_of Recover = recover

-- an event is a query of a key, or a change
abbrev pub queried : ScriptCall → Option ℕ
queried (Query key) = some key
queried (Insert key r) = none
queried (Update key r) = none
queried (Delete key) = none
queried Begin = none
queried Shrink = none
queried Back = none
queried Step = none
queried End = none
queried Recover = none

abbrev pub either : {A : Type 0} → Option ℕ → (ℕ → A) → A → A
either (some key) found changed = found key
either none found changed = changed

-- "`op=cut` .. lets only that many of its stores be made, or all if there are fewer"
abbrev pub event_of : ScriptCall → Under → Event
event_of q None = whole (call_of q) lent
event_of q (Some under) = cut (call_of q) lent under.stores

abbrev pub kept_under : Under → ℕ → ℕ
kept_under None stores = stores
kept_under (Some under) stores = min under.stores stores

-- "An event under a cut line adds `kept=`, the stores made, after `stores=`"
abbrev pub change_answer : Under → Change → Answer
change_answer None r = Changed r
change_answer (Some under) r = Kept r (kept_under (Some under) (reported r))

unfoldable pub answer_to : Table → ScriptCall → Under → Answer
answer_to t q c = either (queried q) (λ key. Found (query_result t key)) (change_answer c (change_result t lent (call_of q)).0)

-- a query leaves the table as it is
unfoldable pub table_after : Table → ScriptCall → Under → Table
table_after t q c = either (queried q) (λ key. t) (after t (event_of q c))

-- ---- what the code promises. The call itself: its own answer, and the table and list that it leaves

pub record Called (q : ScriptCall) (t : Table) (l : List ℕ) (r : Answer) (u : Table) (m : List ℕ) : Type 0 where
  pub answer : r ≡ either (queried q) (λ key. Found (query_result t key)) (Changed (change_result t l (call_of q)).0)
  pub table : u ≡ t
  pub list : queried q ≡ none → m ≡ (change_result t l (call_of q)).1

-- the stores of list l made on table t, which leaves table u
pub record ChangeMade (r : Change) (c : Under) (t : Table) (l : List ℕ) (x : Answer) (u : Table) : Type 0 where
  pub answer : x ≡ change_answer c r
  pub table : u ≡ (make_result t l (kept_under c (reported r))).1

-- the event
pub record EventDone (q : ScriptCall) (c : Under) (t : Table) (r : Answer) (u : Table) : Type 0 where
  pub answer : r ≡ answer_to t q c
  pub table : u ≡ table_after t q c
