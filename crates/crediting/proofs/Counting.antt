-- "lines are counted from 1 over the whole input".
-- Assumes nothing.
use Rattle.std.proofs.Common.{◌≡◌, ℕ, ◌+◌, ◌%◌, ◌^◌, Bool, true, false, cond, eqb, leb, List, length, take, sym, refl, ap, ◌∙◌, arith}
use Rattle.rules.specs.Words.{Table, words_for}
use Rattle.rules.specs.Results.{create_result}
use Rattle.rules.specs.declared.ScriptCall.{ScriptCall}
use Rattle.rules.specs.declared.Refusal.TheVariants.{BadCreation}
use Rattle.rules.specs.Answers.{Verdict}
use Rattle.std.specs.Prelude.{Ok, Err}
use Rattle.lines.specs.Lines.{line_of}
use Rattle.lines.specs.declared.Name.{Name}
use Rattle.lines.specs.declared.Name.TheVariants.{Cap, Top, Mul1, Mul2, Key, Fn, At, After}
use Rattle.lines.specs.declared.Line.{Line}
use Rattle.lines.specs.declared.Line.TheVariants.{Number, Event, Cut, Bad as BadLine}
use Rattle.following.specs.Scripts.{next_line, waits, asks, stops_at, numbers_in, number_read, name_number, event_begun}
use Rattle.following.specs.Scripts.{may_be_cut, event_read, cut_read, no_event_line, expected, reading_of}
use Rattle.following.specs.declared.Due.{Due}
use Rattle.following.specs.declared.Due.TheVariants.{Number as a_number, Event as an_event, Nothing as no_more}
use Rattle.following.specs.Scripts.{Under}
use Rattle.std.specs.Prelude.{Some, None as no_cut}
use Rattle.following.specs.declared.Script.{Script}
use Rattle.following.specs.declared.Asked.{Asked}
use Rattle.following.specs.declared.Asked.TheVariants.{Nothing as ask_nothing, Table as ask_table, Event as ask_event, Bad as ask_end}
use Rattle.following.specs.declared.Reading.{Reading}
use Rattle.replaying.specs.Replays.{created, too_large, asked_of, turn_of}
use Rattle.replaying.specs.Sentences.{GoesOn}
use Rattle.replaying.specs.declared.Replay.{Replay}
use Rattle.crediting.specs.Sentences.{Read, nothing, line, LinesCounted}

-- ---- a line more is counted, and nothing more is due only behind a bad line

pub record Counts (s : Script) (r : Reading) : Type 0 where
  pub lines : r.script.lines ≡ next_line s
  pub over : r.script.due ≡ no_more → (n : ℕ) × (r.asked ≡ ask_end n)

numbers_due : {A : Type 0} {name : Name} → a_number name ≡ no_more → A
numbers_due e = let z : ◌≡◌ {A = ℕ} 0 1 = cc in absurd (omega arith)

events_due : {A : Type 0} → an_event ≡ no_more → A
events_due e = let z : ◌≡◌ {A = ℕ} 0 1 = cc in absurd (omega arith)

module _ (s : Script) where
  waiting : (name : Name) (a b c : ℕ) → Counts s (waits s (a_number name) a b c)
  waiting name a b c = record { lines = refl; over = λ e. numbers_due e }

  asking : (asked : Asked) → Counts s (asks s asked)
  asking asked = record { lines = refl; over = λ e. events_due e }

  stopping : (n : ℕ) → Counts s (stops_at s n)
  stopping n = record { lines = refl; over = λ e. (n, refl) }

  by : (b : Bool) {x y : Reading} → Counts s x → Counts s y → Counts s (cond b x y)
  by true p q = p
  by false p q = q

  number_counts : (name : Name) (v : ℕ) → Counts s (number_read s name v)
  number_counts Cap v = waiting Top v 0 0
  number_counts Top v = waiting Mul1 s.first v 0
  number_counts Mul1 v = waiting Mul2 s.first s.second v
  number_counts Mul2 v = asking _
  number_counts Key v = by (eqb (numbers_in s.event) 1) (asking _) (waiting Fn v 0 0)
  number_counts Fn v = waiting At s.first v 0
  number_counts At v = asking _
  number_counts After v = record { lines = refl; over = λ e. events_due e }

  begun-counts : (q : ScriptCall) → Counts s (event_begun s q)
  begun-counts q = by (eqb (numbers_in q) 0) (asking _) (record { lines = refl; over = λ e. numbers_due e })

  event_counts : (c : Under) (q : ScriptCall) → Counts s (event_read s c q)
  event_counts no_cut q = begun-counts q
  event_counts (Some under) q = by (may_be_cut q) (begun-counts q) (stopping under.line)

  cut-counts : (c : Under) → Counts s (cut_read s c)
  cut-counts no_cut = waiting After 0 0 0
  cut-counts (Some under) = stopping under.line

  expected-counts : (d : Due) → (d ≡ no_more → ⊥) → (l : Line) → Counts s (expected s d l)
  expected-counts (a_number due) k (Number n v) = by (eqb (name_number due) (name_number n)) (number_counts due v) (stopping (next_line s))
  expected-counts (a_number due) k (Event q) = stopping (next_line s)
  expected-counts (a_number due) k Cut = stopping (next_line s)
  expected-counts (a_number due) k BadLine = stopping (next_line s)
  expected-counts an_event k (Number n v) = stopping (no_event_line s s.cut)
  expected-counts an_event k (Event q) = event_counts s.cut q
  expected-counts an_event k Cut = cut-counts s.cut
  expected-counts an_event k BadLine = stopping (no_event_line s s.cut)
  expected-counts no_more k l = absurd (k refl)

  reading_counts : (s.due ≡ no_more → ⊥) → (l : Line) → Counts s (reading_of s l)
  unfolding reading_of
  reading_counts k l = expected-counts s.due k l

-- ---- where the script goes on, its replay stands behind the line

module _ (room : List ℕ) (p : Replay) (next : Script) where
  created_goes : (c : ℕ) (r : Verdict × Table) → GoesOn (created p next room c r).answer → (created p next room c r).replay.script ≡ next
  created_goes c (Ok tt, t) g = refl
  created_goes c (Err e, t) g = absurd (g.made e refl)

  table_goes : (b : Bool) (c : ℕ) (r : Verdict × Table) → GoesOn (cond b (created p next room c r) (too_large p next room)).answer
      → (cond b (created p next room c r) (too_large p next room)).replay.script ≡ next
  table_goes true c r g = created_goes c r g
  table_goes false c r g = absurd (g.made BadCreation refl)

  script_goes : (a : Asked) → GoesOn (asked_of room p next a).answer → (asked_of room p next a).replay.script ≡ next
  script_goes ask_nothing g = refl
  script_goes (ask_end n) g = absurd (g.good n refl)
  script_goes (ask_table c k mul1 mul2) g = table_goes (leb c 8) c (create_result (take (words_for c) room) 1 c k mul1 mul2) g
  script_goes (ask_event q under) g = refl

  never-over : (a : Asked) → GoesOn (asked_of room p next a).answer → (n : ℕ) → a ≡ ask_end n → ⊥
  never-over a g n e = let h : GoesOn (asked_of room p next (ask_end n)).answer = rw e at g in h.good n refl

module _ (room : List ℕ) (p : Replay) (l : List ℕ) (unended : p.script.due ≡ no_more → ⊥) (g : GoesOn (turn_of room p (line_of l)).answer) where
  r : Reading
  r = reading_of p.script (line_of l)

  behind : (turn_of room p (line_of l)).replay.script ≡ r.script
  unfolding turn_of r
  behind = script_goes room p r.script r.asked g

  more_lines : (turn_of room p (line_of l)).replay.script.lines ≡ next_line p.script
  unfolding r
  more_lines = ap (λ (s : Script). s.lines) behind ∙ (reading_counts p.script unended (line_of l)).lines

  still_unended : (turn_of room p (line_of l)).replay.script.due ≡ no_more → ⊥
  unfolding turn_of r
  still_unended e =
      let ended = (reading_counts p.script unended (line_of l)).over (sym (ap (λ (s : Script). s.due) behind) ∙ e) in
      never-over room p r.script r.asked g ended.0 ended.1

read-lines : {room left : List ℕ} {p q : Replay} {ls : List (List ℕ)} → Read room p ls left q → (p.script.due ≡ no_more → ⊥) → (n : ℕ)
    → p.script.lines ≡ n % 2 ^ 64
    → q.script.lines ≡ (n + length ls) % 2 ^ 64
read-lines nothing unended n e = e ∙ omega arith
read-lines (line {room} {p = p} {l = l} {ls} s g rest) unended n e =
    let here = more_lines room p l unended g in
    read-lines rest (still_unended room p l unended g) (n + 1) (omega (arith, here, e)) ∙ ap (λ (k : ℕ). k % 2 ^ 64) (omega arith)

pub lines_counted : LinesCounted
lines_counted room left ls p r = read-lines r (λ e. numbers_due e) 0 refl ∙ ap (λ (k : ℕ). k % 2 ^ 64) (omega arith)
