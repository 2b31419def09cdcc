-- From what the inner functions do to what a line makes of a replay.
-- Assumes nothing.
use Rattle.std.proofs.Common.{◌≡◌, ℕ, ◌<◌, ◌≤◌, min, List, ◌++◌, length, take, drop, sym, refl, ap, ◌∙◌, le-leb}
use borrow.Author.Tests.{lt-leb}
use Rattle.rules.specs.Words.{Table, words_for}
use Rattle.rules.specs.Results.{create_result}
use Rattle.rules.specs.declared.ScriptCall.{ScriptCall}
use Rattle.rules.specs.declared.Refusal.{Refusal}
use Rattle.rules.specs.declared.Refusal.TheVariants.{BadCreation}
use Rattle.rules.specs.Answers.{Verdict}
use Rattle.std.specs.Prelude.{Ok, Err}
use Rattle.rules.proofs.Calls.Meanings.{verdict_one}
use Rattle.making.specs.Promises.{Created}
use Rattle.following.specs.Scripts.{Under}
use Rattle.following.specs.declared.Script.{Script}
use Rattle.following.specs.declared.Asked.TheVariants.{Table as ask_table, Event as ask_event}
use Rattle.replaying.specs.Events.{EventDone}
use Rattle.replaying.specs.Replays.{counted, stopped, created, asked_of, TurnIs}
use Rattle.replaying.specs.declared.Answer.{Answer}
use Rattle.replaying.specs.declared.Answer.TheVariants.{Created as CreatedAs}
use Rattle.replaying.specs.declared.Replay.{Replay}
use Rattle.replaying.specs.declared.Turn.{Turn}
use Rattle.replaying.proofs.Rooms.{take_least, drop_least}

-- in the lent words
module _ (p : Replay) (next : Script) (room : List ℕ) {r : Turn} {n : ℕ} (lent : n ≡ min p.words (length room)) where
  pub event_taken : {x : Answer} {u : Table} (q : ScriptCall) (under : Under) → EventDone q under (take n room) x u
      → (r.replay ≡ counted p next) × (r.answer ≡ x) → TurnIs (asked_of room p next (ask_event q under)) r (u ++ drop n room)
  event_taken {x} {u} q under d c =
      let table : take n room ≡ take p.words room = ap (λ (k : ℕ). take k room) lent ∙ take_least p.words room in
      let rest : drop n room ≡ drop p.words room = ap (λ (k : ℕ). drop k room) lent ∙ drop_least p.words room in
      let e : EventDone q under (take p.words room) x u = rw table at d in
      record { replay = c.0; answer = c.1 ∙ e.answer; room = rw (rest, e.table) }

-- ---- the table

module _ (p : Replay) (next : Script) (room : List ℕ) (c k mul1 mul2 : ℕ) where
  pub too_large_lem : {r : Turn} → 8 < c → (r.replay ≡ stopped p next) × (r.answer ≡ CreatedAs (Err BadCreation))
      → TurnIs (asked_of room p next (ask_table c k mul1 mul2)) r room
  too_large_lem l e = rw (lt-leb c 8 l) (record { replay = e.0; answer = e.1; room = refl })

  module _ {n : ℕ} (lent : n ≡ min (words_for c) (length room)) (small : c ≤ 8) (v : Verdict) (u : Table)
      (made : Created (take n room) 1 c k mul1 mul2 v u) where
    result : create_result (take (words_for c) room) 1 c k mul1 mul2 ≡ (v, u)
    unfolding Created
    result =
        let table : take n room ≡ take (words_for c) room = ap (λ (j : ℕ). take j room) lent ∙ take_least (words_for c) room in
        let m = rw table at made in
        let same = verdict_one v (create_result (take (words_for c) room) 1 c k mul1 mul2).0 m.answer in
        sym (rw (same, m.table))

    asked-table : asked_of room p next (ask_table c k mul1 mul2) ≡ created p next room c (v, u)
    asked-table = rw (le-leb c 8 small, result)

    rest : drop n room ≡ drop (words_for c) room
    rest = ap (λ (j : ℕ). drop j room) lent ∙ drop_least (words_for c) room

    pub table_taken : {r : Turn} → v ≡ Ok tt → (r.replay ≡ record { script = next; words = words_for c; events = p.events })
        → r.answer ≡ CreatedAs (Ok tt) → TurnIs (asked_of room p next (ask_table c k mul1 mul2)) r (u ++ drop n room)
    table_taken d a b = rw (asked-table, d) (record { replay = a; answer = b; room = rw rest })

    pub table_denied : {r : Turn} {e : Refusal} → v ≡ Err e → (r.replay ≡ stopped p next) × (r.answer ≡ CreatedAs (Err e))
        → TurnIs (asked_of room p next (ask_table c k mul1 mul2)) r (u ++ drop n room)
    table_denied d a = rw (asked-table, d) (record { replay = a.0; answer = a.1; room = rw rest })
