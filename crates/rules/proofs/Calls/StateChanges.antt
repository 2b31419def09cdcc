-- The calls that store a state, on a sound table. begin and shrink: 7 where the table is not at rest, 9 at k = c and 17 where k is below 2. back
-- and end: 8 at rest, and for end 10 with an interim item. Else the state alone changes, and the map is the same: no level with an item in it
-- goes out of use.
-- Assumes nothing.
use Prim.Native.Nat.{ℕ, ◌≤◌, ◌<◌}
use mathlib.Core.Path.{◌≡◌, refl, ap, ◌∙◌}
use mathlib.Core.Bool.{Bool, true, false, cond}
use mathlib.Core.Logic.{◌⊎◌, inl, inr, ⊎_elim}
use mathlib.Core.List.{[], ◌∷◌, Memᴰ as In}
use native.Mathlib.Omega.{arith}
use lib.ListN.{length}
use borrow.Author.Tests.{eqb-false, eq-eqb, ne_eqb, le-leb, lt-leb}
use Rattle.rules.specs.Choice.{empty}
use Rattle.rules.specs.Words.{Table, GoodState, header_of, at_rest, shrinking, state_word, top_of, bottom_of, interim_of, levels_in_use, exponent_in_use, InLevel}
use Rattle.rules.specs.Stores.{begun_of, shrunk_of, turned_of, ended_of, state_stores, made}
use Rattle.rules.specs.Soundness.{TakenSlot, PlainMap}
use Rattle.rules.specs.Calls.{listed, refused, begin_tests, begin_of, shrink_tests, shrink_of, back_tests, back_of, interim_items, end_tests, end_of, outcome}
use Rattle.rules.specs.Demands.{AtRest, Resizing, Growing, Shrinking, InterimItem, NoInterim, Given, Gives, BeginAnswers, ShrinkAnswers}
use Rattle.rules.specs.Demands.{BackAnswers, EndAnswers}
use Rattle.rules.specs.declared.State.{State}
use Rattle.rules.specs.declared.Level.{Level}
use Rattle.rules.specs.declared.Slot.{Slot}
use Rattle.rules.specs.declared.Refusal.TheVariants.{InterimTaken}
use Rattle.rules.proofs.Words.States.{state-fits, grown-interim, shrunk-interim, GrowsOrShrinks, resizing_phases}
use Rattle.rules.proofs.Words.Headers.{header-fits}
use Rattle.rules.proofs.Words.Levels.{OfThree, level-cases, top-used, bottom-used, interim-used, exponent-fits, level_of_bucket}
use Rattle.rules.proofs.Words.Unused.{exponent-tells, ranged_bucket, unused-exponent}
use Rattle.rules.proofs.Tables.Interims.{interim-empty, interim_left}
use Rattle.rules.proofs.Carrying.Moving.{kept-alone, kept_map}
use Rattle.rules.proofs.Carrying.Restated.{Restated, state_stored, Lasts, Lasted, restated_carried, restated_orderly}
use Rattle.rules.proofs.Calls.Passing.{passes}

-- growing or shrinking, there is an interim level
pub resizing-interim : (t : Table) → Resizing t → at_rest (header_of t).state ≡ false
unfolding at_rest
resizing-interim t resizing = ne_eqb (header_of t).state.phase 0 resizing

-- a state that is stored on a sound table, where the levels allow it
module _ (t : Table) (m : PlainMap) (n : ℕ) (given : Given t m n) (s : State) (good : GoodState (header_of t).c s) where
  abbrev pub restated : Table
  restated = made t ((4, state_word s) ∷ [])

  stored : Restated t restated s
  stored =
      let g = given.sound.orderly.header in
      let low : s.k < 256 = omega (arith, state-fits (header_of t).c s good, g.capacity.1) in
      state_stored t s (header-fits (length t) (header_of t) g) low

  -- a level of the new state had its exponent in use before, or lay in no level in use and has no token
  lasted : (l : Level) → In l (levels_in_use s) → Lasted t l
  lasted l i = go (exponent_in_use (header_of t).state l.exponent) refl
    where
      go : (b : Bool) → exponent_in_use (header_of t).state l.exponent ≡ b → Lasted t l
      go true q = inl ((exponent-tells (header_of t).state l.exponent).0 q)
      go false q =
          inr (λ j range.
          let fits = exponent-fits (header_of t).c s good l i in
          given.sound.orderly.unused j (ranged_bucket (header_of t).c l.exponent j (omega arith) range)
          (unused-exponent (header_of t).state l.exponent j range q))

  state_gives : ((l : Level) → In l (levels_in_use (header_of t).state) → Lasts t s l) → Gives t (listed ((4, state_word s) ∷ [])) m s
  state_gives lasts =
      let o = given.sound.orderly in
      let carried = restated_carried 0 t restated s o stored lasts lasted in
      let orderly = restated_orderly 0 t restated s o stored lasts lasted good in
      record {
        stores = (4, state_word s) ∷ [];
        answer = refl;
        sound = record { orderly = orderly; alone = kept-alone t restated _ orderly.header.state m given.map carried given.sound.alone };
        map = kept_map t restated _ orderly.header.state m given.map carried;
        header = stored.header;
      }

-- ---- begin, and back from shrinking: the old top is the bottom, the old bottom the interim level, and an interim level, of twice the old top,
-- the top

module _ (t : Table) (m : PlainMap) (n : ℕ) (given : Given t m n) (before : AtRest t ⊎ Shrinking t) (room : (header_of t).state.k < (header_of t).c) where
  least : 1 ≤ (header_of t).state.k
  least = (state-fits (header_of t).c (header_of t).state given.sound.orderly.header.state).0

  grown_lasts : (l : Level) → In l (levels_in_use (header_of t).state) → Lasts t (begun_of (header_of t).state) l
  unfolding top_of bottom_of at_rest
  grown_lasts l i = go (level-cases (header_of t).state l i)
    where
      go : OfThree (header_of t).state l → Lasts t (begun_of (header_of t).state) l
      go (inl e) = inl (bottom_of (begun_of (header_of t).state), bottom-used (begun_of (header_of t).state), rw e (omega arith))
      go (inr (inl e)) = inl (
        interim_of (begun_of (header_of t).state),
        interim-used (begun_of (header_of t).state) refl,
        rw (e, grown-interim (begun_of (header_of t).state) refl) (omega (arith, least)),
      )
      go (inr (inr e)) =
          ⊎_elim (λ (rest : AtRest t). absurd (eqb-false _ _ e.0 rest))
          (λ (p : Shrinking t). inl (
            top_of (begun_of (header_of t).state),
            top-used (begun_of (header_of t).state),
            rw (e.1, shrunk-interim (header_of t).state p) refl,
          ))
          before

  grown_gives : Gives t (listed (state_stores (begun_of (header_of t).state))) m (begun_of (header_of t).state)
  unfolding state_stores
  grown_gives = state_gives t m n given (begun_of (header_of t).state) (inr (inl (refl, omega (arith, least), omega (arith, room)))) grown_lasts

-- ---- shrink, and back from growing: the old top is the interim level, the old bottom the top, and an interim level, of half the old bottom, the
-- bottom

module _ (t : Table) (m : PlainMap) (n : ℕ) (given : Given t m n) (before : AtRest t ⊎ Growing t) (low : 2 ≤ (header_of t).state.k) where
  shrunk_lasts : (l : Level) → In l (levels_in_use (header_of t).state) → Lasts t (shrunk_of (header_of t).state) l
  unfolding top_of bottom_of at_rest
  shrunk_lasts l i = go (level-cases (header_of t).state l i)
    where
      go : OfThree (header_of t).state l → Lasts t (shrunk_of (header_of t).state) l
      go (inl e) = inl (
        interim_of (shrunk_of (header_of t).state),
        interim-used (shrunk_of (header_of t).state) refl,
        rw (e, shrunk-interim (shrunk_of (header_of t).state) refl) (omega arith),
      )
      go (inr (inl e)) = inl (top_of (shrunk_of (header_of t).state), top-used (shrunk_of (header_of t).state), rw e refl)
      go (inr (inr e)) =
          ⊎_elim (λ (rest : AtRest t). absurd (eqb-false _ _ e.0 rest))
          (λ (p : Growing t). inl (
            bottom_of (shrunk_of (header_of t).state),
            bottom-used (shrunk_of (header_of t).state),
            rw (e.1, grown-interim (header_of t).state p) (omega arith),
          ))
          before

  shrunk_gives : Gives t (listed (state_stores (shrunk_of (header_of t).state))) m (shrunk_of (header_of t).state)
  unfolding state_stores
  shrunk_gives =
      let most = (state-fits (header_of t).c (header_of t).state given.sound.orderly.header.state).1 in
      state_gives t m n given (shrunk_of (header_of t).state) (inr (inr (refl, omega arith, omega (arith, most)))) shrunk_lasts

-- ---- end: the interim level goes out of use, without an item

module _ (t : Table) (m : PlainMap) (n : ℕ) (given : Given t m n) (resizing : Resizing t) (none : NoInterim t) where
  abbrev ended : State
  ended = ended_of (header_of t).state

  -- an item in a bucket of the interim level is an interim item
  no_item : (y : Slot) → TakenSlot t y → InLevel (interim_of (header_of t).state) y.bucket → ⊥
  unfolding interim_of
  no_item y a range =
      let s = (header_of t).state in
      let good = given.sound.orderly.header.state in
      let used = interim-used s (resizing-interim t resizing) in
      let same = level_of_bucket (header_of t).c s good a.used.level (interim_of s) y.bucket a.used.used used a.used.bucket range in
      none y (record { item = a; level = a.used.name ∙ ap (λ (l : Level). l.name) same })

  end_lasts : (l : Level) → In l (levels_in_use (header_of t).state) → Lasts t ended l
  unfolding top_of bottom_of
  end_lasts l i = go (level-cases (header_of t).state l i)
    where
      go : OfThree (header_of t).state l → Lasts t ended l
      go (inl e) = inl (top_of ended, top-used ended, rw e refl)
      go (inr (inl e)) = inl (bottom_of ended, bottom-used ended, rw e refl)
      go (inr (inr e)) = inr (λ y a r. no_item y a (rw e.1 at r))

  -- "end growth | state: phase 0"
  end_gives : Gives t (listed (state_stores ended)) m ended
  unfolding state_stores
  end_gives =
      let fits = state-fits (header_of t).c (header_of t).state given.sound.orderly.header.state in
      state_gives t m n given ended (inl (refl, fits.0, fits.1)) end_lasts

-- ---- the four calls

pub begin_answers : BeginAnswers
unfolding outcome begin_of begin_tests at_rest
begin_answers t m n given = (
  λ resizing. rw (passes t m n given, ne_eqb (header_of t).state.phase 0 resizing),
  λ rest full. rw (passes t m n given, eq-eqb (header_of t).state.phase 0 rest, eq-eqb (header_of t).state.k (header_of t).c full),
  λ rest below.
      let most = (state-fits (header_of t).c (header_of t).state given.sound.orderly.header.state).1 in
      rw (passes t m n given, eq-eqb (header_of t).state.phase 0 rest, ne_eqb (header_of t).state.k (header_of t).c below)
      (grown_gives t m n given (inl rest) (omega (arith, most, below))),
)

pub shrink_answers : ShrinkAnswers
unfolding outcome shrink_of shrink_tests at_rest
shrink_answers t m n given = (
  λ resizing. rw (passes t m n given, ne_eqb (header_of t).state.phase 0 resizing),
  λ rest small. rw (passes t m n given, eq-eqb (header_of t).state.phase 0 rest, lt-leb 2 (header_of t).state.k small),
  λ rest low. rw (passes t m n given, eq-eqb (header_of t).state.phase 0 rest, le-leb 2 (header_of t).state.k low)
      (shrunk_gives t m n given (inl rest) low),
)

pub back_answers : BackAnswers
unfolding outcome back_of back_tests at_rest turned_of shrinking
back_answers t m n given = (
  λ rest. rw (passes t m n given, eq-eqb (header_of t).state.phase 0 rest),
  λ p. rw (passes t m n given, ne_eqb (header_of t).state.phase 0 (λ z. omega arith), eq-eqb (header_of t).state.phase 2 p)
      (grown_gives t m n given (inr p) (room p)),
  λ p. rw (passes t m n given, ne_eqb (header_of t).state.phase 0 (λ z. omega arith), ne_eqb (header_of t).state.phase 2 (λ z. omega arith))
      (shrunk_gives t m n given (inr p) (low p)),
)
  where
    phases : Resizing t → GrowsOrShrinks (header_of t).c (header_of t).state
    phases resizing = resizing_phases (header_of t).c (header_of t).state given.sound.orderly.header.state (resizing-interim t resizing)

    room : Shrinking t → (header_of t).state.k < (header_of t).c
    room p = ⊎_elim (λ f. absurd (omega arith)) (λ f. f.2) (phases (λ z. omega arith))

    low : Growing t → 2 ≤ (header_of t).state.k
    low p = ⊎_elim (λ f. f.1) (λ f. absurd (omega arith)) (phases (λ z. omega arith))

pub end_answers : EndAnswers
unfolding outcome end_of end_tests at_rest
end_answers t m n given = (
  λ rest. rw (passes t m n given, eq-eqb (header_of t).state.phase 0 rest),
  λ resizing. rw (passes t m n given, ne_eqb (header_of t).state.phase 0 resizing) (go resizing (empty (interim_items t (header_of t))) refl),
)
  where
    go : Resizing t → (b : Bool) → empty (interim_items t (header_of t)) ≡ b
        → ((x : Slot) × InterimItem t x × (cond b (listed (state_stores (ended_of (header_of t).state))) (refused InterimTaken) ≡ refused InterimTaken))
        ⊎ (NoInterim t × Gives t (cond b (listed (state_stores (ended_of (header_of t).state))) (refused InterimTaken)) m (ended_of (header_of t).state))
    go resizing true e = let none = (interim-empty t).0 e in inr (none, end_gives t m n given resizing none)
    go resizing false e = let x = interim_left t e in inl (x.0, x.1, refl)
