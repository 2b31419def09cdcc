-- A call with its list, and make on that list, are the event of the rules.
-- Assumes nothing.
use Rattle.std.proofs.Common.{◌≡◌, ℕ, List, [], ◌∷◌, sym, refl, ap, ◌∙◌, arith}
use mathlib.Core.Option.{Option, none, some}
use types.Run.{OneOf, miss}
use denote.Enum.Declared.{tag_of}
use Rattle.rules.specs.Words.{Table}
use Rattle.rules.specs.Results.{change_result, query_result, make_result}
use Rattle.rules.specs.Histories.{reported, after}
use Rattle.rules.specs.declared.ScriptCall.{ScriptCall}
use Rattle.rules.specs.declared.ScriptCall.TheVariants.{Query}
use Rattle.rules.specs.Answers.{Change}
use Rattle.rules.specs.Answers.{Query as QueryAnswer}
use Rattle.rules.proofs.Calls.Meanings.{change-one, query-one}
use Rattle.listing.specs.Promises.{Changed as ChangedBy}
use Rattle.querying.specs.Promises.{Queried}
use Rattle.following.specs.Scripts.{Under}
use Rattle.std.specs.Prelude.{Some, None}
use Rattle.replaying.specs.Events.{lent, call_of, queried, either, event_of, kept_under, change_answer, answer_to, table_after, Called, ChangeMade, EventDone}
use Rattle.replaying.specs.declared.Answer.{Answer}
use Rattle.replaying.specs.declared.Answer.TheVariants.{Changed, Found}
use Rattle.replaying.specs.contracts.Answer.{the_type as answer-type}

-- ---- the call itself

pub called-query : {t u : Table} {l m : List ℕ} {key : ℕ} (r : QueryAnswer) → Queried t key r u → Called (Query key) t l (Found r) u m
called-query {t} {key = key} r d =
    record { answer = ap Found (query-one r (query_result t key) d.answer); table = d.table; list = λ e. never-none e }
  where
    never-none : {A : Type 0} → some key ≡ none → A
    never-none e = let z : ◌≡◌ {A = ℕ} 0 1 = cc in absurd (omega arith)

pub called-change : {q : ScriptCall} {t u : Table} {l m : List ℕ} (r : Change) → queried q ≡ none → ChangedBy (call_of q) t l r u m
    → Called q t l (Changed r) u m
called-change {q} {t} {l = l} r n d =
    record { answer = rw n (ap Changed (change-one r (change_result t l (call_of q)).0 d.answer)); table = d.table; list = λ e. d.list }

-- what is no change, by its number among the answers
pub not_changed : (x : Answer) → OneOf (0 ∷ 1 ∷ 3 ∷ 4 ∷ 5 ∷ 6 ∷ []) (tag_of answer-type x) → (r : Change) → x ≡ Changed r → ⊥
not_changed x k r e = miss (0 ∷ 1 ∷ 3 ∷ 4 ∷ 5 ∷ 6 ∷ []) 2 tt (rw e at k)

-- ---- the event

module _ (q : ScriptCall) (c : Under) (t : Table) where
  pub after_event : after t (event_of q c) ≡ (make_result t (change_result t lent (call_of q)).1 (kept_under c (reported (change_result t lent (call_of q)).0))).1
  after_event = go c
    where
      go : (d : Under)
          → after t (event_of q d) ≡ (make_result t (change_result t lent (call_of q)).1 (kept_under d (reported (change_result t lent (call_of q)).0))).1
      go None = refl
      go (Some under) = refl

  module _ {x : Answer} {w : Table} {m : List ℕ} (d : Called q t lent x w m) where
    -- a change, whose stores are then made
    pub change_done : {r : Change} → x ≡ Changed r → {y : Answer} {u : Table} → ChangeMade r c w m y u → EventDone q c t y u
    unfolding answer_to table_after
    change_done {r} e {y} {u} made = go (queried q) refl (sym d.answer ∙ e)
      where
        own : Option ℕ → Answer
        own o = either o (λ key. Found (query_result t key)) (Changed (change_result t lent (call_of q)).0)

        go : (o : Option ℕ) → queried q ≡ o → own o ≡ Changed r → EventDone q c t y u
        go (some key) n f = let z : ◌≡◌ {A = ℕ} 0 1 = cc in absurd (omega arith)
        go none n f =
            let same : r ≡ (change_result t lent (call_of q)).0 = cc in
            record { answer = rw n (made.answer ∙ ap (change_answer c) same); table = rw n (made.table ∙ rw (d.table, d.list n, same) (sym after_event)) }

    -- a query, which answers no change
    pub query_done : ((r : Change) → x ≡ Changed r → ⊥) → EventDone q c t x w
    unfolding answer_to table_after
    query_done other = go (queried q) refl d.answer
      where
        go : (o : Option ℕ) → queried q ≡ o → x ≡ either o (λ key. Found (query_result t key)) (Changed (change_result t lent (call_of q)).0)
            → EventDone q c t x w
        go (some key) n f = record { answer = rw n f; table = rw n d.table }
        go none n f = absurd (other (change_result t lent (call_of q)).0 f)
