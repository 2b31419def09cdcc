-- Request f), by the words of the table and the buckets of its levels: what shrink and back store, when 7, 8 and 17 are given, and what becomes of
-- the levels. On every table.
-- Assumes nothing.
use Prim.Native.Nat.{ℕ, ◌+◌, ◌-◌, ◌*◌, ◌/◌, ◌%◌, ◌^◌, ◌≤◌, ◌<◌}
use mathlib.Core.Path.{◌≡◌, refl, sym, ap, ◌∙◌, subst}
use mathlib.Core.List.{List, [], ◌∷◌, Memᴰ as In}
use mathlib.Core.Logic.{◌↔◌, ◌⊎◌, inl, inr}
use native.Mathlib.Decide.{ℕ_discrete}
use native.Mathlib.Omega.{arith}
use lib.ListN.{length, set, length-set}
use lib.Seq.{get_or-set_same, get_or-set_other, set-set, set-get_or}
use lib.Pow.{pow-add}
use borrow.Author.Tests.{eq-eqb}
use Rattle.rules.specs.Words.{Table, word, state_of, state_word, header_of, at_rest, top_of, bottom_of, interim_of, levels_in_use, InLevel}
use Rattle.rules.specs.Stores.{Store, begun_of, shrunk_of, made}
use Rattle.rules.specs.Calls.{refused, listed, Call, query, insert, update, delete, begin, shrink, back, step_from, end, recover, outcome}
use Rattle.rules.specs.Results.{change_result}
use Rattle.rules.specs.Histories.{whole, after, Accepted}
use Rattle.rules.specs.Demands.{AtRest, Resizing, Growing, Shrinking, GoodStateWord, MayChange, FirstRefuses, Written, with_state}
use Rattle.rules.specs.Demands.{None, InterimItem, InterimFrom, NoneHasPlace}
use Rattle.rules.specs.ResizeSentences.{ShrinkStores, LevelHas, LevelsAreThree, LevelsShrink, SevenExactly, SeventeenExactly, BackStores}
use Rattle.rules.specs.ResizeSentences.{LevelsTurn, TurnedTwice, EightExactly, OwnStoresCount}
use Rattle.rules.specs.SpotSentences.{LevelNamed}
use Rattle.rules.specs.declared.State.{State}
use Rattle.rules.specs.declared.Header.{Header}
use Rattle.rules.specs.declared.Level.{Level}
use Rattle.rules.specs.declared.Slot.{Slot}
use Rattle.rules.specs.declared.Refusal.{Refusal}
use Rattle.rules.specs.declared.Refusal.TheVariants.{NoPlace, AlreadyResizing, NotResizing, AtCapacity, InterimTaken, InterimEmpty, TooSmall}
use Rattle.rules.proofs.Basics.Lists.{never, ascending_compare}
use Rattle.rules.proofs.Words.States.{grown-interim, shrunk-interim}
use Rattle.rules.proofs.Words.Headers.{Sizes, sizes, header-fits}
use Rattle.rules.proofs.Words.Levels.{OfThree, Ranged, level-cases, top-used, bottom-used, interim-used}
use Rattle.rules.proofs.Words.SlotsInUse.{Lower, levels_ascend}
use Rattle.rules.proofs.Tables.Interims.{interim-size}
use Rattle.rules.proofs.Carrying.Restated.{state_stored}
use Rattle.rules.proofs.Calls.Checked.{accepted-header}
use Rattle.rules.proofs.Calls.Refusals.{same_number, past_three, behind-three, first_exactly, refusals_in_order}
use Rattle.rules.proofs.Calls.StoreLists.{never-listed, stores_as_written}
use Rattle.rules.proofs.Calls.StateChanges.{resizing-interim}
use Rattle.rules.proofs.Calls.MadeLists.{stores_of, after-whole, accepted-lists, lists-accepted}

-- ---- 7, 8 and 17

module _ (t : Table) where
  -- the reasons behind 1, 2 and 3
  abbrev of_begin : List (Type 0 × Refusal)
  of_begin = ((header_of t).state.k ≡ (header_of t).c, AtCapacity) ∷ []

  abbrev of_shrink : List (Type 0 × Refusal)
  of_shrink = ((header_of t).state.k < 2, TooSmall) ∷ []

  abbrev of_step : ℕ → List (Type 0 × Refusal)
  of_step b = (None (InterimFrom t b), InterimEmpty) ∷ (NoneHasPlace t (InterimFrom t b), NoPlace) ∷ []

  abbrev of_end : List (Type 0 × Refusal)
  of_end = (((x : Slot) × InterimItem t x), InterimTaken) ∷ []

pub seven_exactly : SevenExactly
seven_exactly t n q (inl e) =
    rw e (first_exactly t n (Resizing t) AlreadyResizing (of_begin t) _ (omega arith) ((λ k. omega arith), tt) (refusals_in_order t n begin))
seven_exactly t n q (inr e) =
    rw e (first_exactly t n (Resizing t) AlreadyResizing (of_shrink t) _ (omega arith) ((λ k. omega arith), tt) (refusals_in_order t n shrink))

pub eight_exactly : EightExactly
eight_exactly t n q (inl e) = rw e (first_exactly t n (AtRest t) NotResizing [] _ (omega arith) tt (refusals_in_order t n back))
eight_exactly t n q (inr (inl e)) =
    rw e (first_exactly t n (AtRest t) NotResizing (of_end t) _ (omega arith) ((λ k. omega arith), tt) (refusals_in_order t n end))
eight_exactly t n q (inr (inr (b, e))) =
    rw e (first_exactly t n (AtRest t) NotResizing (of_step t b) _ (omega arith) ((λ k. omega arith), ((λ k. omega arith), tt))
    (refusals_in_order t n (step_from b)))

pub seventeen_exactly : SeventeenExactly
unfolding header_of state_of
seventeen_exactly t n = (to, from)
  where
    least : GoodStateWord (word t 1) (word t 4) → word t 4 / 256 ≡ 0 → word t 4 % 256 < 2 → word t 4 ≡ 1
    least (inl r) rest small = omega arith
    least (inr (inl r)) rest small = omega arith
    least (inr (inr r)) rest small = omega arith

    to : outcome t n shrink ≡ refused TooSmall → MayChange t n × (word t 4 ≡ 1)
    to e = go (behind-three t n ((Resizing t, AlreadyResizing) ∷ of_shrink t) (outcome t n shrink) (λ r q. let z = same_number (sym q ∙ e) in omega arith)
        (refusals_in_order t n shrink)) (ℕ_discrete (word t 4 / 256) 0)
      where
        go : MayChange t n × FirstRefuses ((Resizing t, AlreadyResizing) ∷ of_shrink t) (outcome t n shrink) → Dec (word t 4 / 256 ≡ 0)
            → MayChange t n × (word t 4 ≡ 1)
        go (may, inl (f, q)) d = absurd (let z = same_number (sym q ∙ e) in omega arith)
        go (may, inr (f, inl (small, q))) (yes rest) = (may, least may.header.state rest small)
        go (may, inr (f, inl (small, q))) (no d) = absurd (f d)
        go (may, inr (f, inr (big, (xs, q)))) d = never-listed (sym e ∙ q)

    from : MayChange t n × (word t 4 ≡ 1) → outcome t n shrink ≡ refused TooSmall
    from (may, one) = go (past_three t n ((Resizing t, AlreadyResizing) ∷ of_shrink t) (outcome t n shrink) may (refusals_in_order t n shrink))
      where
        go : FirstRefuses ((Resizing t, AlreadyResizing) ∷ of_shrink t) (outcome t n shrink) → outcome t n shrink ≡ refused TooSmall
        go (inl (f, q)) = absurd (f (omega arith))
        go (inr (f, inl (small, q))) = q
        go (inr (f, inr (big, k))) = absurd (big (omega arith))

-- ---- what shrink and back store

pub shrink_stores : ShrinkStores
unfolding header_of state_of
shrink_stores t n may low most = go (past_three t n ((Resizing t, AlreadyResizing) ∷ of_shrink t) (outcome t n shrink) may (refusals_in_order t n shrink))
  where
    go : FirstRefuses ((Resizing t, AlreadyResizing) ∷ of_shrink t) (outcome t n shrink) → outcome t n shrink ≡ listed ((4, 512 + (word t 4 - 1)) ∷ [])
    go (inl (f, q)) = absurd (f (omega (arith, may.header.capacity)))
    go (inr (f, inl (small, q))) = absurd (omega (arith, small, may.header.capacity))
    go (inr (f, inr (big, (xs, q)))) =
        let same : word t 4 % 256 - 1 + 256 * 2 ≡ 512 + (word t 4 - 1) = omega (arith, may.header.capacity) in
        q ∙ ap listed (stores_as_written t n shrink xs q ∙ ap (λ (w : ℕ). (4, w) ∷ []) same)

pub back_stores : BackStores
unfolding header_of state_of
back_stores t n k may = (
  λ e. go (256 + (k + 1)) (λ rest. omega arith) (shrinks e),
  λ e low. go (512 + (k - 1)) (λ rest. omega arith) (grows e low),
)
  where
    -- what is written, by the phase
    shrinks : word t 4 ≡ 512 + k → (xs : List Store) → Written t (header_of t) back xs → xs ≡ (4, 256 + (k + 1)) ∷ []
    shrinks e xs (inl (p, w)) =
        let same : word t 4 % 256 + 1 + 256 * 1 ≡ 256 + (k + 1) = omega arith in
        w ∙ ap (λ (v : ℕ). (4, v) ∷ []) same
    shrinks e xs (inr (p, w)) = absurd (omega arith)

    grows : word t 4 ≡ 256 + k → k < 256 → (xs : List Store) → Written t (header_of t) back xs → xs ≡ (4, 512 + (k - 1)) ∷ []
    grows e low xs (inl (p, w)) = absurd (omega arith)
    grows e low xs (inr (p, w)) =
        let same : word t 4 % 256 - 1 + 256 * 2 ≡ 512 + (k - 1) = omega arith in
        w ∙ ap (λ (v : ℕ). (4, v) ∷ []) same

    go : (w : ℕ) → Resizing t → ((xs : List Store) → Written t (header_of t) back xs → xs ≡ (4, w) ∷ [])
        → outcome t n back ≡ listed ((4, w) ∷ [])
    go w moves written = find (past_three t n ((AtRest t, NotResizing) ∷ []) (outcome t n back) may (refusals_in_order t n back))
      where
        find : FirstRefuses ((AtRest t, NotResizing) ∷ []) (outcome t n back) → outcome t n back ≡ listed ((4, w) ∷ [])
        find (inl (rest, q)) = absurd (moves rest)
        find (inr (f, (xs, q))) = q ∙ ap listed (written xs (stores_as_written t n back xs q))

-- ---- the levels by their names

-- no two levels in use have the same name
module _ (t : Table) (j : ℕ) where
  has-level : (m : Level) → In m (levels_in_use (header_of t).state) → LevelHas t m.name j ↔ InLevel m j
  has-level m used = (
    λ h. go h (ascending_compare Lower (levels_in_use (header_of t).state) (levels_ascend (header_of t).state) h.0 m h.1 used),
    λ r. (m, used, refl, r),
  )
    where
      go : (h : LevelHas t m.name j) → (h.0 ≡ m) ⊎ (Lower h.0 m ⊎ Lower m h.0) → InLevel m j
      go h (inl e) = rw e at h.3
      go h (inr (inl k)) = absurd (omega (arith, h.2))
      go h (inr (inr k)) = absurd (omega (arith, h.2))

  has-top : LevelHas t 0 j ↔ Ranged (header_of t).state.k j
  unfolding top_of
  has-top = has-level (top_of (header_of t).state) (top-used (header_of t).state)

  has-bottom : LevelHas t 1 j ↔ Ranged ((header_of t).state.k - 1) j
  unfolding bottom_of
  has-bottom = has-level (bottom_of (header_of t).state) (bottom-used (header_of t).state)

  has-interim : Resizing t → LevelHas t 2 j ↔ Ranged (interim_of (header_of t).state).exponent j
  unfolding interim_of
  has-interim resizing = has-level (interim_of (header_of t).state) (interim-used (header_of t).state (resizing-interim t resizing))

pub levels_are_three : LevelsAreThree
unfolding top_of bottom_of interim_of at_rest
levels_are_three t name j = (λ h. to h (level-cases (header_of t).state h.0 h.1), from)
  where
    to : (h : LevelHas t name j) → OfThree (header_of t).state h.0 → LevelNamed t name j
    to h (inl e) = inl (sym h.2 ∙ ap (λ (l : Level). l.name) e, rw e at h.3)
    to h (inr (inl e)) = inr (inl (sym h.2 ∙ ap (λ (l : Level). l.name) e, rw e at h.3))
    to h (inr (inr e)) =
        inr (inr (sym h.2 ∙ ap (λ (l : Level). l.name) e.1, λ r. never (eq-eqb _ _ r) e.0, rw (interim-size t) (rw e.1 at h.3)))

    from : LevelNamed t name j → LevelHas t name j
    from (inl (n, r)) = rw n ((has-top t j).1 r)
    from (inr (inl (n, r))) = rw n ((has-bottom t j).1 r)
    from (inr (inr (n, resizing, r))) = rw n ((has-interim t j resizing).1 (rw (interim-size t) at r))

-- ---- what becomes of them, where a state is stored

-- two levels of the same exponent have the same buckets
ranges_same : {d e j : ℕ} {A B : Type 0} → d ≡ e → A ↔ Ranged d j → B ↔ Ranged e j → A ↔ B
ranges_same {j = j} q a b = (λ x. b.1 (rw q at (a.0 x)), λ y. a.1 (rw q (b.0 y)))

module _ (t : Table) (l : List ℕ) (q : Call) (s : State) where
  -- the state of the table after it
  stored_state : (xs : List Store) → outcome t (length l) q ≡ listed xs → xs ≡ (4, state_word s) ∷ [] → s.k < 256
      → (header_of (after t (whole q l))).state ≡ s
  unfolding with_state
  stored_state xs e list low =
      let r = state_stored t s (header-fits (length t) (header_of t) (accepted-header t (length l) q xs e)) low in
      let made : after t (whole q l) ≡ made t ((4, state_word s) ∷ []) = after-whole t l q ∙ ap (λ o. made t (stores_of o)) (e ∙ ap listed list) in
      rw made (ap (λ (h : Header). h.state) r.header)

  -- its levels, where that state is not at rest
  module _ (state : (header_of (after t (whole q l))).state ≡ s) (j : ℕ) where
    top-after : LevelHas (after t (whole q l)) 0 j ↔ Ranged s.k j
    top-after = subst (λ (z : State). LevelHas (after t (whole q l)) 0 j ↔ Ranged z.k j) state (has-top (after t (whole q l)) j)

    bottom-after : LevelHas (after t (whole q l)) 1 j ↔ Ranged (s.k - 1) j
    bottom-after = subst (λ (z : State). LevelHas (after t (whole q l)) 1 j ↔ Ranged (z.k - 1) j) state (has-bottom (after t (whole q l)) j)

    interim-after : (s.phase ≡ 0 → ⊥) → LevelHas (after t (whole q l)) 2 j ↔ Ranged (interim_of s).exponent j
    interim-after moves =
        subst (λ (z : State). LevelHas (after t (whole q l)) 2 j ↔ Ranged (interim_of z).exponent j) state
        (has-interim (after t (whole q l)) j (λ rest. moves (sym (ap (λ (z : State). z.phase) state) ∙ rest)))

-- an accepted shrink came from rest, with k at least 2
shrink-from : (t : Table) (n : ℕ) (xs : List Store) → outcome t n shrink ≡ listed xs → ((header_of t).state.phase ≡ 0) × (2 ≤ (header_of t).state.k)
shrink-from t n xs e =
    go (behind-three t n ((Resizing t, AlreadyResizing) ∷ of_shrink t) (outcome t n shrink) (λ r q. never-listed (sym q ∙ e))
    (refusals_in_order t n shrink)).1 (ℕ_discrete (header_of t).state.phase 0)
  where
    go : FirstRefuses ((Resizing t, AlreadyResizing) ∷ of_shrink t) (outcome t n shrink) → Dec (AtRest t)
        → ((header_of t).state.phase ≡ 0) × (2 ≤ (header_of t).state.k)
    go (inl (f, q)) d = never-listed (sym q ∙ e)
    go (inr (f, inl (small, q))) d = never-listed (sym q ∙ e)
    go (inr (f, inr (big, k))) (yes rest) = (rest, omega (arith, big))
    go (inr (f, inr (big, k))) (no d) = absurd (f d)

-- "a quarter of the old top"
quarter : (t : Table) → (header_of t).state.phase ≡ 0 → 2 ≤ (header_of t).state.k → 2 ^ word t 4 / 4 ≡ 2 ^ ((header_of t).state.k - 1 - 1)
unfolding header_of state_of
quarter t rest low =
    let k = word t 4 % 256 in
    let whole : word t 4 ≡ k - 1 - 1 + 2 = omega arith in
    let four : 2 ^ (k - 1 - 1 + 2) ≡ 2 ^ (k - 1 - 1) * 2 ^ 2 = pow-add 2 (k - 1 - 1) 2 in
    let same : 2 ^ word t 4 ≡ 2 ^ (k - 1 - 1) * 2 ^ 2 = ap (λ (e : ℕ). 2 ^ e) whole ∙ four in
    omega arith

pub levels_shrink : LevelsShrink
unfolding state_word
levels_shrink t l accepted j =
    let lists = accepted-lists t l shrink accepted in
    let z = sizes (length t) (header_of t) (accepted-header t (length l) shrink lists.0 lists.1) in
    let from = shrink-from t (length l) lists.0 lists.1 in
    let s = shrunk_of (header_of t).state in
    let state = stored_state t l shrink s lists.0 lists.1 (stores_as_written t (length l) shrink lists.0 lists.1) (omega (arith, z.most, z.cap)) in
    let old : (header_of t).state.k ≡ (interim_of s).exponent = sym (shrunk-interim s refl ∙ omega (arith, from.1)) in
    let after-bottom = bottom-after t l shrink s state j in (
      ranges_same old (has-top t j) (interim-after t l shrink s state j (λ p. omega arith)),
      ranges_same refl (has-bottom t j) (top-after t l shrink s state j),
      rw (quarter t from.0 from.1) (after-bottom.1, after-bottom.0),
    )

pub levels_turn : LevelsTurn
unfolding state_word
levels_turn t l accepted j = (λ p. shrinks p (stores_as_written t (length l) back xs e), λ p. grows p (stores_as_written t (length l) back xs e))
  where
    xs : List Store
    xs = (accepted-lists t l back accepted).0

    e : outcome t (length l) back ≡ listed xs
    e = (accepted-lists t l back accepted).1

    z : Sizes (header_of t)
    z = sizes (length t) (header_of t) (accepted-header t (length l) back xs e)

    shrinks : Shrinking t → Written t (header_of t) back xs
        → (LevelHas t 0 j ↔ LevelHas (after t (whole back l)) 1 j) × (LevelHas t 1 j ↔ LevelHas (after t (whole back l)) 2 j)
        × (LevelHas t 2 j ↔ LevelHas (after t (whole back l)) 0 j)
    shrinks p (inl (q, w)) =
        let s = begun_of (header_of t).state in
        let state = stored_state t l back s xs e w (omega (arith, z.most, z.cap)) in
        let grown : (header_of t).state.k - 1 ≡ (interim_of s).exponent = sym (grown-interim s refl ∙ omega (arith, z.least)) in (
          ranges_same (omega arith) (has-top t j) (bottom-after t l back s state j),
          ranges_same grown (has-bottom t j) (interim-after t l back s state j (λ r. omega arith)),
          ranges_same (shrunk-interim (header_of t).state p) (has-interim t j (λ r. omega arith)) (top-after t l back s state j),
        )
    shrinks p (inr (q, w)) = absurd (omega arith)

    grows : Growing t → Written t (header_of t) back xs
        → (LevelHas t 0 j ↔ LevelHas (after t (whole back l)) 2 j) × (LevelHas t 1 j ↔ LevelHas (after t (whole back l)) 0 j)
        × (LevelHas t 2 j ↔ LevelHas (after t (whole back l)) 1 j)
    grows p (inl (q, w)) = absurd (omega arith)
    grows p (inr (q, w)) =
        let s = shrunk_of (header_of t).state in
        let state = stored_state t l back s xs e w (omega (arith, z.most, z.cap)) in
        let old : (header_of t).state.k ≡ (interim_of s).exponent = sym (shrunk-interim s refl ∙ omega (arith, z.least)) in (
          ranges_same old (has-top t j) (interim-after t l back s state j (λ r. omega arith)),
          ranges_same refl (has-bottom t j) (top-after t l back s state j),
          ranges_same (grown-interim (header_of t).state p ∙ omega arith) (has-interim t j (λ r. omega arith)) (bottom-after t l back s state j),
        )

-- ---- turned back twice

-- another good state in word 4: 1, 2 and 3 are not given
module _ (t : Table) (n m v : ℕ) (may : MayChange t n) (room : 20 ≤ m) (fits : 9 ≤ length t) where
  other : (i : ℕ) → (i ≡ 4 → ⊥) → word (set t 4 v) i ≡ word t i
  other i d = get_or-set_other t 4 i v 0 d

  restated_may : GoodStateWord (word t 1) v → MayChange (set t 4 v) m
  restated_may good =
      let c = other 1 (λ e. omega arith) in
      record {
        header = record {
          long = rw (length-set, c) may.header.long;
          form = rw (other 0 (λ e. omega arith)) may.header.form;
          capacity = rw c may.header.capacity;
          odd1 = rw (other 2 (λ e. omega arith)) may.header.odd1;
          odd2 = rw (other 3 (λ e. omega arith)) may.header.odd2;
          state = rw (c, get_or-set_same t 4 v 0 (omega arith)) good;
        };
        list = room;
        flag = rw (other 5 (λ e. omega arith)) may.flag;
      }

-- back stores v, and back again what stood there
twice : (t : Table) (l m : List ℕ) (v : ℕ) → outcome t (length l) back ≡ listed ((4, v) ∷ [])
    → outcome (set t 4 v) (length m) back ≡ listed ((4, word t 4) ∷ [])
    → Accepted (change_result (after t (whole back l)) m back).0 × (after (after t (whole back l)) (whole back m) ≡ t)
twice t l m v e f =
    let once : after t (whole back l) ≡ set t 4 v = after-whole t l back ∙ ap (λ o. made t (stores_of o)) e in
    let again : outcome (after t (whole back l)) (length m) back ≡ listed ((4, word t 4) ∷ []) = rw once f in (
      lists-accepted (after t (whole back l)) m back ((4, word t 4) ∷ []) again,
      after-whole (after t (whole back l)) m back ∙ ap (λ o. made (after t (whole back l)) (stores_of o)) again
          ∙ ap (λ (u : Table). set u 4 (word t 4)) once ∙ set-set t 4 v (word t 4) ∙ set-get_or t 4 0,
    )

pub turned_twice : TurnedTwice
unfolding header_of state_of
turned_twice t l m accepted room = go may.header.state (ℕ_discrete (word t 4 / 256) 0)
  where
    xs : List Store
    xs = (accepted-lists t l back accepted).0

    e : outcome t (length l) back ≡ listed xs
    e = (accepted-lists t l back accepted).1

    behind : MayChange t (length l) × FirstRefuses ((AtRest t, NotResizing) ∷ []) (outcome t (length l) back)
    behind = behind-three t (length l) ((AtRest t, NotResizing) ∷ []) (outcome t (length l) back) (λ r q. never-listed (sym q ∙ e))
        (refusals_in_order t (length l) back)

    may : MayChange t (length l)
    may = behind.0

    fits : 9 ≤ length t
    fits = header-fits (length t) (header_of t) (accepted-header t (length l) back xs e)

    moves : FirstRefuses ((AtRest t, NotResizing) ∷ []) (outcome t (length l) back) → AtRest t → ⊥
    moves (inl (f, q)) rest = never-listed (sym q ∙ e)
    moves (inr (f, k)) rest = f rest

    go : GoodStateWord (word t 1) (word t 4) → Dec (word t 4 / 256 ≡ 0)
        → Accepted (change_result (after t (whole back l)) m back).0 × (after (after t (whole back l)) (whole back m) ≡ t)
    go state (yes rest) = absurd (moves behind.1 rest)
    go (inl r) (no d) = absurd (d (omega (arith, may.header.capacity)))
    go (inr (inl r)) (no d) =
        let k = word t 4 - 256 in
        let v = 512 + (k - 1) in
        let first = (back_stores t (length l) k may).1 (omega arith) (omega (arith, may.header.capacity)) in
        let then = restated_may t (length l) (length m) v may room fits (inr (inr (omega arith))) in
        let second = (back_stores (set t 4 v) (length m) (k - 1) then).0 (get_or-set_same t 4 v 0 (omega (arith, fits))) in
        let same : 256 + (k - 1 + 1) ≡ word t 4 = omega arith in
        twice t l m v first (second ∙ ap (λ (w : ℕ). listed ((4, w) ∷ [])) same)
    go (inr (inr r)) (no d) =
        let k = word t 4 - 512 in
        let v = 256 + (k + 1) in
        let first = (back_stores t (length l) k may).0 (omega arith) in
        let then = restated_may t (length l) (length m) v may room fits (inr (inl (omega arith))) in
        let second = (back_stores (set t 4 v) (length m) (k + 1) then).1 (get_or-set_same t 4 v 0 (omega (arith, fits))) (omega (arith, may.header.capacity)) in
        let same : 512 + (k + 1 - 1) ≡ word t 4 = omega arith in
        twice t l m v first (second ∙ ap (λ (w : ℕ). listed ((4, w) ∷ [])) same)

-- ---- whose stores are counted

pub own_stores_count : OwnStoresCount
own_stores_count t begin l es = (λ o. refl, λ n. absurd (n tt))
own_stores_count t shrink l es = (λ o. refl, λ n. absurd (n tt))
own_stores_count t back l es = (λ o. refl, λ n. absurd (n tt))
own_stores_count t (step_from b) l es = (λ o. refl, λ n. absurd (n tt))
own_stores_count t end l es = (λ o. refl, λ n. absurd (n tt))
own_stores_count t (query key) l es = (λ o. absurd o, λ n. omega arith)
own_stores_count t (insert key r) l es = (λ o. absurd o, λ n. omega arith)
own_stores_count t (update key r) l es = (λ o. absurd o, λ n. omega arith)
own_stores_count t (delete key) l es = (λ o. absurd o, λ n. omega arith)
own_stores_count t recover l es = (λ o. absurd o, λ n. omega arith)
