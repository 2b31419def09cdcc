-- The definitions of `Events` and `Replays` keep document 01's sentences, as `Sentences` says them.
-- Assumes nothing.
use Rattle.std.proofs.Common.{◌≡◌, ℕ, ◌<◌, ◌≤◌, min, Bool, true, false, cond, leb, List, length, get_or, take, refl, ap, ◌∙◌, ⊎_elim, arith, take-append-drop, le-leb}
use mathlib.Core.Option.{none}
use borrow.Author.Tests.{lt-leb}
use Rattle.rules.specs.Choice.{all}
use Rattle.rules.specs.Words.{word, words_for}
use Rattle.rules.specs.Answers.{Meaning, change_means, verdict_means}
use Rattle.rules.specs.Results.{change_result, query_result, create_tests, created as created_words, create_result}
use Rattle.rules.specs.Histories.{reported}
use Rattle.rules.specs.Answers.{Change}
use Rattle.std.specs.Prelude.{Ok, Err}
use Rattle.rules.specs.declared.ScriptCall.{ScriptCall}
use Rattle.rules.specs.declared.ScriptCall.TheVariants.{Query, Insert, Update, Delete, Begin, Shrink, Back, Step, End, Recover}
use Rattle.rules.specs.declared.Refusal.TheVariants.{BadCreation}
use Rattle.rules.specs.Answers.{Verdict}
use Rattle.rules.proofs.Calls.Meanings.{verdict_one}
use Rattle.following.specs.Sentences.{Changing}
use Rattle.following.specs.Scripts.{Under}
use Rattle.following.specs.Scripts.{cut_after}
use Rattle.std.specs.Prelude.{None as no_cut}
use Rattle.following.specs.declared.Due.TheVariants.{Nothing as no_more}
use Rattle.following.specs.declared.Script.{Script}
use Rattle.following.specs.declared.Asked.TheVariants.{Table as ask_table}
use Rattle.replaying.specs.Events.{lent, call_of, queried, kept_under, change_answer, answer_to, table_after}
use Rattle.replaying.specs.Replays.{Turned, table_of, created, too_large, asked_of, finished, finish_of}
use Rattle.replaying.specs.Sentences.{Tells, Answered, ChangesAnswered, NothingAnswered, BadAnswered, EndAnswered, LetsMake}
use Rattle.replaying.specs.Sentences.{CutChangesAnswered, QueriesAnswered, Verdicts, TableMade, ScriptsMakeForm1, TableNotMade}
use Rattle.replaying.specs.declared.Answer.{Answer}
use Rattle.replaying.specs.declared.Answer.TheVariants.{Created, Kept}
use Rattle.replaying.specs.declared.Replay.{Replay}
use Rattle.replaying.proofs.Made.{after_event}

-- ---- changes

reported-value : (r : Change) → reported r ≡ get_or (change_means r).values 0 0
reported-value (Ok s) = refl
reported-value (Err e) = refl

no_query : (q : ScriptCall) → Changing q → queried q ≡ none
no_query (Query key) c = absurd c
no_query (Insert key r) c = refl
no_query (Update key r) c = refl
no_query (Delete key) c = refl
no_query Begin c = refl
no_query Shrink c = refl
no_query Back c = refl
no_query Step c = refl
no_query End c = refl
no_query Recover c = refl

module _ (room : List ℕ) (p : Replay) (next : Script) (q : ScriptCall) (changing : Changing q) (r : Change) {number stores : ℕ}
    (tells : Tells room p q r number stores) where
  told-stores : reported r ≡ stores
  told-stores = reported-value r ∙ ap (λ (m : Meaning). get_or m.values 0 0) tells.means

  kept-stores : (c : Under) → kept_under c (reported (change_result (table_of p room) lent (call_of q)).0) ≡ kept_under c stores
  kept-stores c = ap (λ (x : Change). kept_under c (reported x)) tells.own ∙ ap (kept_under c) told-stores

  answered : (c : Under) {answer : Answer} {made : ℕ} → change_answer c r ≡ answer → kept_under c stores ≡ made → Answered room p next q c answer made
  unfolding answer_to table_after
  answered c a k =
      let n = no_query q changing in
      record {
        said = rw (n, tells.own) a;
        words = rw (n, after_event q c (table_of p room), kept-stores c, k);
        count = refl;
        onward = (refl, refl);
      }

pub changes_answered : ChangesAnswered
changes_answered room p next q changing r number stores tells = answered room p next q changing r tells no_cut refl refl

lets_min : (n stores made : ℕ) → LetsMake n stores made → min n stores ≡ made
lets_min n stores made l = ⊎_elim (λ h. omega (arith, h)) (λ h. omega (arith, h)) l

pub cut_changes_answered : CutChangesAnswered
cut_changes_answered room p next q changing r n line number stores made tells lets =
    let kept = lets_min n stores made lets in
    answered room p next q changing r tells (cut_after n line) (ap (λ (x : ℕ). Kept r (min n x)) (told-stores room p next q changing r tells)
    ∙ ap (Kept r) kept) kept

-- ---- lines that ask for nothing, bad lines, and the end

pub nothing_answered : NothingAnswered
nothing_answered room p next = refl

pub bad_answered : BadAnswered
bad_answered room p next line = (refl, refl)

pub end_answered : EndAnswered
unfolding finish_of
end_answered = (refl, λ p torn. (λ e. ap (finished p) e, λ line e. ap (finished p) e, λ e. ap (finished p) e))

-- ---- queries

pub queries_answered : QueriesAnswered
unfolding answer_to table_after
queries_answered room p next key under number f place count word level e =
    record { answer = query_result (table_of p room) key; said = refl; means = e; words = take-append-drop p.words room; counted = refl }

-- ---- the table

module _ (room : List ℕ) (p : Replay) (next : Script) (c k mul1 mul2 : ℕ) where
  small-table : c ≤ 8 → asked_of room p next (ask_table c k mul1 mul2) ≡ created p next room c (create_result (take (words_for c) room) 1 c k mul1 mul2)
  small-table small = rw (le-leb c 8 small)

  answered_by : c ≤ 8 → (v : Verdict) → verdict_means (create_result (take (words_for c) room) 1 c k mul1 mul2).0 ≡ verdict_means v
      → asked_of room p next (ask_table c k mul1 mul2) ≡ created p next room c (v, (create_result (take (words_for c) room) 1 c k mul1 mul2).1)
  answered_by small v e =
      let r = create_result (take (words_for c) room) 1 c k mul1 mul2 in
      small-table small ∙ ap (λ (x : Verdict). created p next room c (x, r.1)) (verdict_one r.0 v e)

pub table_made : TableMade
table_made room p next c k mul1 mul2 small e =
    let same = answered_by room p next c k mul1 mul2 small (Ok tt) e in (
      ap (λ (t : Turned). t.answer) same,
      ap (λ (t : Turned). t.replay.words) same,
      ap (λ (t : Turned). t.replay.script) same,
      ap (λ (t : Turned). t.replay.events) same,
      ap (λ (t : Turned). t.room) same,
    )

-- creation answers either by its header words or by a refusal
pub scripts_make_form1 : ScriptsMakeForm1
unfolding create_result created_words
scripts_make_form1 room p next c k mul1 mul2 e = go (leb c 8) (all (create_tests (length fit) 1 c k mul1 mul2)) e
  where
    fit : List ℕ
    fit = take (words_for c) room

    told : Bool → Bool → Turned
    told small good =
        cond small (created p next room c (cond good (Ok tt, created_words 1 c k mul1 mul2) (Err BadCreation, fit))) (too_large p next room)

    go : (small good : Bool) → (told small good).answer ≡ Created (Ok tt) → word (told small good).room 0 ≡ 1
    go true true e = refl
    go true false e = let z : ◌≡◌ {A = ℕ} 0 1 = cc in absurd (omega arith)
    go false good e = let z : ◌≡◌ {A = ℕ} 0 1 = cc in absurd (omega arith)

pub table_not_made : TableNotMade
table_not_made room p next c k mul1 mul2 h = ⊎_elim large denied h
  where
    large : 8 < c → ((asked_of room p next (ask_table c k mul1 mul2)).answer ≡ Created (Err BadCreation))
        × ((asked_of room p next (ask_table c k mul1 mul2)).replay.script.due ≡ no_more)
    large l = (rw (lt-leb c 8 l), rw (lt-leb c 8 l))

    denied : (c ≤ 8) × Verdicts room c k mul1 mul2 13
        → ((asked_of room p next (ask_table c k mul1 mul2)).answer ≡ Created (Err BadCreation))
        × ((asked_of room p next (ask_table c k mul1 mul2)).replay.script.due ≡ no_more)
    denied d =
        let same = answered_by room p next c k mul1 mul2 d.0 (Err BadCreation) d.1 in
        (ap (λ (t : Turned). t.answer) same, ap (λ (t : Turned). t.replay.script.due) same)
