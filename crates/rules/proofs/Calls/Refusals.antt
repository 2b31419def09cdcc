-- "Refusal numbers": each call refuses by the first of its refusals, in document 01's order, whose reason holds, and is accepted
-- where none does. On every table and with a list of any length.
-- Assumes nothing.
use Prim.Native.Nat.{ℕ, ◌<◌}
use mathlib.Core.Path.{◌≡◌, refl, sym, ap, ◌∙◌}
use mathlib.Core.Bool.{Bool, true, false, not, cond}
use mathlib.Core.List.{List, [], ◌∷◌, ◌++◌}
use mathlib.Core.Logic.Iff
use mathlib.Core.Logic.{◌↔◌, inl, inr}
use mathlib.Core.Option.{Option, none, some}
use native.Mathlib.Decide.{ℕ_discrete}
use native.Mathlib.Omega.{arith}
use lib.ListN.{length}
use borrow.Author.Tests.{leb-true, leb-false}
use Rattle.rules.specs.Choice.{all, empty}
use Rattle.rules.specs.Words.{Table, header_of, header_tests, flag_of, at_rest, word}
use Rattle.rules.specs.Places.{lookup}
use Rattle.rules.specs.Placing.{placing}
use Rattle.rules.specs.Stores.{Store, placing_stores, begun_of, shrunk_of, turned_of, ended_of, state_stores}
use Rattle.rules.specs.Soundness.{finding}
use Rattle.rules.specs.Answers.{number_of}
use Rattle.rules.specs.Calls.{header_good, list_long, flag_clear, checked, changing_tests, query_tests, recover_tests, Outcome, refused, listed}
use Rattle.rules.specs.Calls.{placed_by, insert_in, update_in, delete_in, query_in, begin_tests, begin_of, shrink_tests, shrink_of}
use Rattle.rules.specs.Calls.{back_tests, back_of, items_from, step_item, step_in, step_tests, step_of}
use Rattle.rules.specs.Calls.{end_tests, end_of, recover_of, Call, query, insert, update, delete, begin, shrink, back, step_from, end, recover, outcome}
use Rattle.rules.specs.NoPlace.{NoPlaceFor}
use Rattle.rules.specs.Demands.{AtRest, Resizing, Held, InterimItem, None, InterimFrom, NoneHasPlace, OfNoKind, changing_refusals, refusals}
use Rattle.rules.specs.Demands.{FirstRefuses}
use Rattle.rules.specs.Demands.{RefusalsInOrder, HeaderWords, MayChange, bad_header, flag_not_zero}
use Rattle.rules.specs.declared.Slot.{Slot}
use Rattle.rules.specs.declared.Record.{Record}
use Rattle.rules.specs.declared.Lookup.{Lookup}
use Rattle.rules.specs.declared.Lookup.TheVariants.{Stands, Absent}
use Rattle.rules.specs.declared.Placing.{Placing}
use Rattle.rules.specs.declared.Placing.TheVariants.{Free, Move, Nowhere}
use Rattle.rules.specs.declared.Finding.{Finding}
use Rattle.rules.specs.declared.Finding.TheVariants.{Sound, Doubled, Flagged, Neither}
use Rattle.rules.specs.declared.Refusal.{Refusal}
use Rattle.rules.specs.declared.Refusal.TheVariants.{BadHeader, ShortList, FlagSet, KeyPresent, KeyAbsent, NoPlace, AlreadyResizing, NotResizing}
use Rattle.rules.specs.declared.Refusal.TheVariants.{AtCapacity, InterimTaken, InterimEmpty, NoKind, TooSmall}
use Rattle.rules.proofs.Basics.Lists.{never}
use Rattle.rules.proofs.Basics.Tests.{Tells, tells_eq}
use Rattle.rules.proofs.Places.Placings.{some-place, no_place_lem}
use Rattle.rules.proofs.Tables.Interims.{step-item, no_step-item, interim-empty, interim_left, from_empty, from_left}
use Rattle.rules.proofs.Tables.Sound.{header-tells}
use Rattle.rules.proofs.Words.HeaderWords.{header-words}
use Rattle.rules.proofs.Tables.Findings.{KindOf, finding-means}
use Rattle.rules.proofs.Places.Lookups.{lookup-stands, lookup_absent, holder_among}

-- ---- a test refuses where its reason holds

-- the first of some reasons that holds refuses: `FirstRefuses` under a name that stays shut, so that the reasons are read off it
unfoldable pub ByFirst : List (Type 0 × Refusal) → Outcome → Type 0
ByFirst fs o = FirstRefuses fs o

module _ (b : Bool) (r : Refusal) (fs : List (Type 0 × Refusal)) (o : Outcome) where
  -- the reason holds exactly where the test fails
  pub by_test : (F : Type 0) → (b ≡ true → F → ⊥) → (b ≡ false → F) → ByFirst fs o → ByFirst ((F, r) ∷ fs) (cond b o (refused r))
  unfolding ByFirst
  by_test F pass fail k = go b refl
    where
      go : (a : Bool) → b ≡ a → ByFirst ((F, r) ∷ fs) (cond a o (refused r))
      go true e = inr (pass e, k)
      go false e = inl (fail e, refl)

  -- the reason is that a fact does not hold, and what comes next may lean on it; below, that it does
  pub unless_then : (P : Type 0) → Tells b P → (P → ByFirst fs o) → ByFirst (((P → ⊥), r) ∷ fs) (cond b o (refused r))
  unfolding ByFirst
  unless_then P t k = go b refl
    where
      go : (a : Bool) → b ≡ a → ByFirst (((P → ⊥), r) ∷ fs) (cond a o (refused r))
      go true e = inr (λ n. n (t.0 e), k (t.0 e))
      go false e = inl (λ p. never (t.1 p) e, refl)

  unless : (P : Type 0) → Tells b P → ByFirst fs o → ByFirst (((P → ⊥), r) ∷ fs) (cond b o (refused r))
  unless P t k = unless_then P t (λ p. k)

  when : (P : Type 0) → Tells b P → ByFirst fs o → ByFirst ((P, r) ∷ fs) (cond (not b) o (refused r))
  unfolding ByFirst
  when P t k = go b refl
    where
      go : (a : Bool) → b ≡ a → ByFirst ((P, r) ∷ fs) (cond (not a) o (refused r))
      go true e = inl (t.0 e, refl)
      go false e = inr (λ p. never (t.1 p) e, k)

accepted : (stores : List Store) → ByFirst [] (listed stores)
unfolding ByFirst
accepted stores = (stores, refl)

-- ---- tests 1, 2 and 3

module _ (t : Table) where
  pub good-header_or : (fs : List (Type 0 × Refusal)) (o : Outcome) → ByFirst fs o
      → ByFirst (bad_header t ∷ fs) (cond (header_good t) o (refused BadHeader))
  unfolding header_good
  good-header_or fs o = unless (header_good t) BadHeader fs o (HeaderWords t) (Iff.trans (header-tells (length t) (header_of t)) (header-words t))

  long-list_or : (n : ℕ) (fs : List (Type 0 × Refusal)) (o : Outcome) → ByFirst fs o
      → ByFirst ((n < 20, ShortList) ∷ fs) (cond (list_long n) o (refused ShortList))
  unfolding list_long
  long-list_or n fs o = by_test (list_long n) ShortList fs o (n < 20) (λ e l. omega (arith, leb-true 20 n e)) (λ e. leb-false 20 n e)

  pub clear_flag_or : (fs : List (Type 0 × Refusal)) (o : Outcome) → ByFirst fs o → ByFirst (flag_not_zero t ∷ fs) (cond (flag_clear t) o (refused FlagSet))
  unfolding flag_clear flag_of
  clear_flag_or fs o = unless (flag_clear t) FlagSet fs o (word t 5 ≡ 0) (tells_eq _ _)

  changing_or : (n : ℕ) (fs : List (Type 0 × Refusal)) (o : Outcome) → ByFirst fs o
      → ByFirst (changing_refusals t n ++ fs) (checked refused (changing_tests t n) o)
  unfolding changing_tests
  changing_or n fs o k = good-header_or _ _ (long-list_or n _ _ (clear_flag_or fs o k))

  -- ---- what each call finds

  -- the key stands in a probed bucket exactly where the lookup finds it
  pub held : (key : ℕ) (x : Slot) (n : ℕ) → lookup t (header_of t) key ≡ Stands x n → Held t key
  held key x n e =
      let s = (lookup-stands t key x n e).0 in
      (s.place, x, holder_among t key x s, s.here, s.holding)

  pub not_held : (key n : ℕ) → lookup t (header_of t) key ≡ Absent n → Held t key → ⊥
  not_held key n e (p, x, i, j, y) = never y ((lookup_absent t (header_of t) key n e).1 p i x j)

  -- query, update and delete: "key absent"
  absent-refuses : (key : ℕ) (f : Lookup → Outcome) → ((x : Slot) (n : ℕ) → (stores : List Store) × (f (Stands x n) ≡ listed stores))
      → ((n : ℕ) → f (Absent n) ≡ refused KeyAbsent)
      → ByFirst (((Held t key → ⊥), KeyAbsent) ∷ []) (f (lookup t (header_of t) key))
  unfolding ByFirst
  absent-refuses key f a b = go (lookup t (header_of t) key) refl
    where
      go : (o : Lookup) → lookup t (header_of t) key ≡ o → ByFirst (((Held t key → ⊥), KeyAbsent) ∷ []) (f o)
      go (Stands x n) e = inr (λ d. d (held key x n e), a x n)
      go (Absent n) e = inl (not_held key n e, b n)

  -- "no place"
  placed-refuses : (key : ℕ) (stores : Placing → List Store)
      → ByFirst ((NoPlaceFor t (header_of t) key, NoPlace) ∷ []) (placed_by (placing t (header_of t) key) (stores (placing t (header_of t) key)))
  unfolding ByFirst
  placed-refuses key stores = go (placing t (header_of t) key) refl
    where
      go : (p : Placing) → placing t (header_of t) key ≡ p → ByFirst ((NoPlaceFor t (header_of t) key, NoPlace) ∷ []) (placed_by p (stores p))
      go (Free x) e = inr (some-place t (header_of t) key (Free x) refl e, (_, refl))
      go (Move from to) e = inr (some-place t (header_of t) key (Move from to) refl e, (_, refl))
      go Nowhere e = inl ((no_place_lem t (header_of t) key).0 e, refl)

  insert-refuses : (key : ℕ) (r : Record)
      → ByFirst ((Held t key, KeyPresent) ∷ (NoPlaceFor t (header_of t) key, NoPlace) ∷ []) (insert_in t (header_of t) (lookup t (header_of t) key) key r)
  unfolding ByFirst
  insert-refuses key r = go (lookup t (header_of t) key) refl
    where
      go : (o : Lookup) → lookup t (header_of t) key ≡ o
          → ByFirst ((Held t key, KeyPresent) ∷ (NoPlaceFor t (header_of t) key, NoPlace) ∷ []) (insert_in t (header_of t) o key r)
      go (Stands x n) e = inl (held key x n e, refl)
      go (Absent n) e = inr (not_held key n e, placed-refuses key (λ p. placing_stores t (header_of t) p key r))

  rest-tells : Tells (at_rest (header_of t).state) (AtRest t)
  unfolding at_rest
  rest-tells = tells_eq _ _

  begin-refuses : ByFirst ((Resizing t, AlreadyResizing) ∷ ((header_of t).state.k ≡ (header_of t).c, AtCapacity) ∷ []) (begin_of (header_of t))
  unfolding begin_of begin_tests
  begin-refuses = unless _ AlreadyResizing _ _ (AtRest t) rest-tells
      (when _ AtCapacity _ _ _ (tells_eq _ _) (accepted (state_stores (begun_of (header_of t).state))))

  shrink-refuses : ByFirst ((Resizing t, AlreadyResizing) ∷ ((header_of t).state.k < 2, TooSmall) ∷ []) (shrink_of (header_of t))
  unfolding shrink_of shrink_tests
  shrink-refuses = unless _ AlreadyResizing _ _ (AtRest t) rest-tells
      (by_test _ TooSmall _ _ ((header_of t).state.k < 2) (λ e l. omega (arith, leb-true 2 (header_of t).state.k e))
      (leb-false 2 (header_of t).state.k) (accepted (state_stores (shrunk_of (header_of t).state))))

  back-refuses : ByFirst ((AtRest t, NotResizing) ∷ []) (back_of (header_of t))
  unfolding back_of back_tests
  back-refuses = when _ NotResizing _ _ (AtRest t) rest-tells (accepted (state_stores (turned_of (header_of t).state)))

  -- "interim items remain and none has one"
  item-refuses : (b : ℕ) (x : Slot) → InterimFrom t b x
      → ByFirst ((NoneHasPlace t (InterimFrom t b), NoPlace) ∷ []) (step_in t (header_of t) (step_item t (header_of t) b))
  unfolding ByFirst
  item-refuses b x item = go (step_item t (header_of t) b) refl
    where
      go : (o : Option Slot) → step_item t (header_of t) b ≡ o → ByFirst ((NoneHasPlace t (InterimFrom t b), NoPlace) ∷ []) (step_in t (header_of t) o)
      go none e = inl (record { remain = (x, item); stuck = no_step-item t b e }, refl)
      go (some y) e = let f = step-item t b y e in inr (λ n. f.place (n.stuck y f.item), (_, refl))

  -- "interim empty", and else that
  interim-refuses : (b : ℕ) → ByFirst ((None (InterimFrom t b), InterimEmpty) ∷ (NoneHasPlace t (InterimFrom t b), NoPlace) ∷ [])
      (checked refused ((not (empty (items_from t (header_of t) b)), InterimEmpty) ∷ []) (step_in t (header_of t) (step_item t (header_of t) b)))
  unfolding ByFirst
  interim-refuses b = go (empty (items_from t (header_of t) b)) refl
    where
      go : (e : Bool) → empty (items_from t (header_of t) b) ≡ e
          → ByFirst ((None (InterimFrom t b), InterimEmpty) ∷ (NoneHasPlace t (InterimFrom t b), NoPlace) ∷ [])
          (checked refused ((not e, InterimEmpty) ∷ []) (step_in t (header_of t) (step_item t (header_of t) b)))
      go true e = inl ((from_empty t b).0 e, refl)
      go false e = let x = from_left t b e in inr (λ n. n x.0 x.1, item-refuses b x.0 x.1)

  step-refuses : (b : ℕ) → ByFirst
      ((AtRest t, NotResizing) ∷ (None (InterimFrom t b), InterimEmpty) ∷ (NoneHasPlace t (InterimFrom t b), NoPlace) ∷ [])
      (step_of t (header_of t) b)
  unfolding step_of step_tests
  step-refuses b = when _ NotResizing _ _ (AtRest t) rest-tells (interim-refuses b)

  end-refuses : ByFirst ((AtRest t, NotResizing) ∷ (((x : Slot) × InterimItem t x), InterimTaken) ∷ []) (end_of t (header_of t))
  unfolding end_of end_tests
  end-refuses = when _ NotResizing _ _ (AtRest t) rest-tells
      (by_test _ InterimTaken _ _ _ (λ e u. (interim-empty t).0 e u.0 u.1) (interim_left t) (accepted (state_stores (ended_of (header_of t).state))))

  recover-refuses : ByFirst ((OfNoKind t, NoKind) ∷ []) (recover_of t (header_of t) (finding t))
  unfolding ByFirst
  recover-refuses = go (finding t) (finding-means t)
    where
      go : (f : Finding) → KindOf t f → ByFirst ((OfNoKind t, NoKind) ∷ []) (recover_of t (header_of t) f)
      go Sound k = inr (λ n. n.unsound k, (_, refl))
      go (Doubled x y) k = inr (λ n. n.undoubled x y k, (_, refl))
      go (Flagged x) k = inr (λ n. n.unflagged x k, (_, refl))
      go Neither k = inl (k, refl)

by_first : (t : Table) (n : ℕ) (q : Call) → ByFirst (refusals t n q) (outcome t n q)
unfolding outcome query_tests recover_tests
by_first t n (query key) = good-header_or t _ _ (clear_flag_or t _ _ (absent-refuses t key query_in (λ x m. (_, refl)) (λ m. refl)))
by_first t n (insert key r) = changing_or t n _ _ (insert-refuses t key r)
by_first t n (update key r) = changing_or t n _ _ (absent-refuses t key (λ o. update_in t (header_of t) o key r) (λ x m. (_, refl)) (λ m. refl))
by_first t n (delete key) = changing_or t n _ _ (absent-refuses t key (delete_in t (header_of t)) (λ x m. (_, refl)) (λ m. refl))
by_first t n begin = changing_or t n _ _ (begin-refuses t)
by_first t n shrink = changing_or t n _ _ (shrink-refuses t)
by_first t n back = changing_or t n _ _ (back-refuses t)
by_first t n (step_from b) = changing_or t n _ _ (step-refuses t b)
by_first t n end = changing_or t n _ _ (end-refuses t)
by_first t n recover = good-header_or t _ _ (long-list_or t n _ _ (recover-refuses t))

pub refusals_in_order : RefusalsInOrder
unfolding ByFirst
refusals_in_order t n q = by_first t n q

-- ---- behind 1, 2 and 3

pub same_number : {r s : Refusal} → refused r ≡ refused s → number_of r ≡ number_of s
same_number {r} {s} e = let k : r ≡ s = cc in ap number_of k

module _ (t : Table) (n : ℕ) where
  header-stands : ((HeaderWords t → ⊥) → ⊥) → HeaderWords t
  header-stands f = go (all (header_tests (length t) (header_of t))) refl
    where
      tells : Tells (all (header_tests (length t) (header_of t))) (HeaderWords t)
      tells = Iff.trans (header-tells (length t) (header_of t)) (header-words t)

      go : (b : Bool) → all (header_tests (length t) (header_of t)) ≡ b → HeaderWords t
      go true e = tells.0 e
      go false e = absurd (f (λ w. never (tells.1 w) e))

  flag_clear_lem : ((word t 5 ≡ 0 → ⊥) → ⊥) → word t 5 ≡ 0
  flag_clear_lem f = go (ℕ_discrete (word t 5) 0)
    where
      go : Dec (word t 5 ≡ 0) → word t 5 ≡ 0
      go (yes e) = e
      go (no d) = absurd (f d)

  module _ (fs : List (Type 0 × Refusal)) (o : Outcome) where
    -- where these are not given, the others decide
    pub past_three : MayChange t n → FirstRefuses (changing_refusals t n ++ fs) o → FirstRefuses fs o
    past_three may (inl (bad, e)) = absurd (bad may.header)
    past_three may (inr (h, inl (short, e))) = absurd (omega (arith, may.list))
    past_three may (inr (h, inr (l, inl (set, e)))) = absurd (set may.flag)
    past_three may (inr (h, inr (l, inr (f, k)))) = k

    -- and what is refused by none of these comes after them
    pub behind-three : ((r : Refusal) → o ≡ refused r → 3 < number_of r) → FirstRefuses (changing_refusals t n ++ fs) o
        → MayChange t n × FirstRefuses fs o
    behind-three late (inl (bad, q)) = absurd (omega (arith, late _ q))
    behind-three late (inr (h, inl (short, q))) = absurd (omega (arith, late _ q))
    behind-three late (inr (h, inr (l, inl (set, q)))) = absurd (omega (arith, late _ q))
    behind-three late (inr (h, inr (l, inr (f, k)))) = (record { header = header-stands h; list = omega (arith, l); flag = flag_clear_lem f }, k)

-- none of these refusals has the number of r
abbrev Others : Refusal → List (Type 0 × Refusal) → Type 0
Others r [] = Unit {0}
Others r (x ∷ xs) = (number_of x.1 ≡ number_of r → ⊥) × Others r xs

others_not : (r : Refusal) (fs : List (Type 0 × Refusal)) (o : Outcome) → Others r fs → FirstRefuses fs o → o ≡ refused r → ⊥
others_not r [] o d (stores, q) e = absurd (let z : ◌≡◌ {A = ℕ} 0 1 = cc in omega arith)
others_not r (x ∷ xs) o d (inl (f, q)) e = d.0 (same_number (sym q ∙ e))
others_not r (x ∷ xs) o d (inr (f, k)) e = others_not r xs o d.1 k e

-- the first of the others is given exactly where its reason holds
pub first_exactly : (t : Table) (n : ℕ) (F : Type 0) (r : Refusal) (fs : List (Type 0 × Refusal)) (o : Outcome) → 3 < number_of r → Others r fs
    → FirstRefuses (changing_refusals t n ++ ((F, r) ∷ fs)) o → (o ≡ refused r) ↔ (MayChange t n × F)
first_exactly t n F r fs o late d k = (to, from)
  where
    to : o ≡ refused r → MayChange t n × F
    to e = go (behind-three t n ((F, r) ∷ fs) o (λ s q. omega (arith, late, same_number (sym q ∙ e))) k)
      where
        go : MayChange t n × FirstRefuses ((F, r) ∷ fs) o → MayChange t n × F
        go (may, inl (f, q)) = (may, f)
        go (may, inr (f, q)) = absurd (others_not r fs o d q e)

    from : MayChange t n × F → o ≡ refused r
    from (may, f) = go (past_three t n ((F, r) ∷ fs) o may k)
      where
        go : FirstRefuses ((F, r) ∷ fs) o → o ≡ refused r
        go (inl (g, q)) = q
        go (inr (g, q)) = absurd (g f)
