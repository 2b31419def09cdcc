-- What begin, shrink, back and end do behind the first tests.
-- Assumes nothing.
use Prim.Native.Nat.{ℕ, ◌≤◌, ◌<◌}
use mathlib.Core.Path.{◌≡◌, refl, sym, ◌∙◌}
use mathlib.Core.Bool.{Bool, true, false, cond}
use mathlib.Core.List.{List, [], ◌∷◌, head?}
use native.Mathlib.Omega.{arith}
use borrow.Author.Tests.{eq-eqb, ne_eqb, le-leb, lt-leb}
use Rattle.rules.specs.Choice.{empty}
use Rattle.rules.specs.Words.{Table, GoodState, at_rest, shrinking}
use Rattle.rules.specs.Stores.{begun_of, shrunk_of, turned_of, ended_of, state_stores}
use Rattle.rules.specs.Calls.{refused, listed, begin_tests, begin_of, shrink_tests, shrink_of, back_tests, back_of, items_from, end_tests, end_of}
use Rattle.rules.specs.declared.State.{State}
use Rattle.rules.specs.declared.Header.{Header}
use Rattle.rules.specs.declared.Slot.{Slot}
use Rattle.rules.specs.declared.Refusal.TheVariants.{AlreadyResizing, AtCapacity, NotResizing, InterimTaken, TooSmall}
use Rattle.rules.proofs.Words.States.{state-fits}
use Rattle.rules.proofs.Tables.Interims.{items_all}
use Rattle.reading.specs.Within.{slot_found}
use Rattle.std.specs.Prelude.{Option as Answer, Some, None, is_some}

-- an item that is there
pub is_there : {i : Answer Slot} → is_some i ≡ true → (x : Slot) × (i ≡ Some x)
is_there {i = Some x} e = (x, refl)
is_there {i = None} e = absurd (let z : ◌≡◌ {A = ℕ} 0 1 = cc in omega arith)

pub is_nothing : {i : Answer Slot} → is_some i ≡ false → i ≡ None
is_nothing {i = Some x} e = absurd (let z : ◌≡◌ {A = ℕ} 0 1 = cc in omega arith)
is_nothing {i = None} e = refl

-- an item found is one that stands
pub nothing : (l : List Slot) → slot_found (head? l) ≡ None → empty l ≡ true
nothing [] e = refl
nothing (x ∷ l) e = absurd (let z : ◌≡◌ {A = ℕ} 0 1 = cc in omega arith)

pub something : {x : Slot} (l : List Slot) → slot_found (head? l) ≡ Some x → empty l ≡ false
something [] e = absurd (let z : ◌≡◌ {A = ℕ} 0 1 = cc in omega arith)
something (x ∷ l) e = refl

-- the state turned has room in its word
pub turned-fits : (s : State) → GoodState 20 s → ((turned_of s).k ≤ 21) × ((turned_of s).phase ≤ 2)
unfolding turned_of
turned-fits s good = go (shrinking s)
  where
    go : (b : Bool) → ((cond b (begun_of s) (shrunk_of s)).k ≤ 21) × ((cond b (begun_of s) (shrunk_of s)).phase ≤ 2)
    go true = (omega (arith, state-fits 20 s good), omega arith)
    go false = (omega (arith, state-fits 20 s good), omega arith)

module _ (h : Header) where
  pub begin-resizing : at_rest h.state ≡ false → refused AlreadyResizing ≡ begin_of h
  unfolding begin_of begin_tests
  begin-resizing e = rw e

  pub begin-full : at_rest h.state ≡ true → h.state.k ≡ h.c → refused AtCapacity ≡ begin_of h
  unfolding begin_of begin_tests
  begin-full e f = rw (e, eq-eqb _ _ f)

  pub begin-listed : {s : State} → at_rest h.state ≡ true → (h.state.k ≡ h.c → ⊥) → s ≡ begun_of h.state
      → listed (state_stores s) ≡ begin_of h
  unfolding begin_of begin_tests
  begin-listed e f g = rw (e, ne_eqb _ _ f, g)

  pub shrink-resizing : at_rest h.state ≡ false → refused AlreadyResizing ≡ shrink_of h
  unfolding shrink_of shrink_tests
  shrink-resizing e = rw e

  pub shrink-small : at_rest h.state ≡ true → h.state.k < 2 → refused TooSmall ≡ shrink_of h
  unfolding shrink_of shrink_tests
  shrink-small e f = rw (e, lt-leb 2 h.state.k f)

  pub shrink-listed : {s : State} → at_rest h.state ≡ true → 2 ≤ h.state.k → s ≡ shrunk_of h.state → listed (state_stores s) ≡ shrink_of h
  unfolding shrink_of shrink_tests
  shrink-listed e f g = rw (e, le-leb 2 h.state.k f, g)

  pub back-resting : at_rest h.state ≡ true → refused NotResizing ≡ back_of h
  unfolding back_of back_tests
  back-resting e = rw e

  pub back-listed : {s : State} → at_rest h.state ≡ false → s ≡ turned_of h.state → listed (state_stores s) ≡ back_of h
  unfolding back_of back_tests
  back-listed e g = rw (e, g)

module _ (t : Table) (h : Header) where
  pub end-resting : at_rest h.state ≡ true → refused NotResizing ≡ end_of t h
  unfolding end_of end_tests
  end-resting e = rw e

  module _ {i : Answer Slot} (k : i ≡ slot_found (head? (items_from t h 0))) (p : at_rest h.state ≡ false) where
    pub end-taken : {x : Slot} → i ≡ Some x → refused InterimTaken ≡ end_of t h
    unfolding end_of end_tests
    end-taken e = rw (p, ← items_all t h, something (items_from t h 0) (sym k ∙ e))

    pub end-listed : {s : State} → i ≡ None → s ≡ ended_of h.state → listed (state_stores s) ≡ end_of t h
    unfolding end_of end_tests
    end-listed e g = rw (p, ← items_all t h, nothing (items_from t h 0) (sym k ∙ e), g)
