-- An accepted call lists the stores of document 01's table, word by word and in its order, on every table that it accepts.
-- Assumes nothing.
use Prim.Native.Nat.{ℕ}
use mathlib.Core.Path.{◌≡◌, refl}
use mathlib.Core.Bool.{true, not}
use mathlib.Core.List.Memᴰ.{head as here}
use mathlib.Core.List.{List, [], ◌++◌}
use mathlib.Core.Logic.{inl, inr}
use mathlib.Core.Option.{Option, none, some}
use native.Mathlib.Omega.{arith}
use borrow.Author.Tests.{not-true, eq-eqb, ne_eqb}
use Rattle.rules.specs.Words.{Table, GoodState, at_rest, shrinking, header_of, logged_of, state_word, place_of, token_word, key_word, function_word}
use Rattle.rules.specs.Words.{place_word, key_in, record_in, token_of}
use Rattle.rules.specs.Places.{lookup}
use Rattle.rules.specs.Placing.{free_slot, placing, somewhere}
use Rattle.rules.specs.Stores.{Store, put_stores, clear_stores, move_stores, placing_stores, redo_stores, update_with, update_stores, turned_of}
use Rattle.rules.specs.Stores.{state_stores, step_stores}
use Rattle.rules.specs.Soundness.{finding}
use Rattle.rules.specs.Calls.{refused, listed, placed_by, insert_in, update_in, delete_in, query_in, begin_tests, begin_of, shrink_tests, shrink_of, back_tests}
use Rattle.rules.specs.Calls.{back_of, step_item, step_in, step_tests, step_of, end_tests, end_of, recover_of, query, insert, update, delete, begin, shrink}
use Rattle.rules.specs.Calls.{back, step_from, end, recover, tests_of, outcome}
use Rattle.rules.specs.Demands.{FirstHolder, InterimFrom, FirstWithPlace, PlacingWritten, UpdateWritten, RecoveryWritten, Written, StoresAsWritten}
use Rattle.rules.specs.declared.Header.{Header}
use Rattle.rules.specs.declared.Slot.{Slot}
use Rattle.rules.specs.declared.Record.{Record}
use Rattle.rules.specs.declared.Lookup.{Lookup}
use Rattle.rules.specs.declared.Lookup.TheVariants.{Stands, Absent}
use Rattle.rules.specs.declared.Placing.{Placing}
use Rattle.rules.specs.declared.Placing.TheVariants.{Free, Move, Nowhere}
use Rattle.rules.specs.declared.Finding.{Finding}
use Rattle.rules.specs.declared.Finding.TheVariants.{Sound, Doubled, Flagged, Neither}
use Rattle.rules.specs.declared.Refusal.{Refusal}
use Rattle.rules.specs.declared.Refusal.TheVariants.{NotResizing}
use Rattle.rules.proofs.Words.States.{GrowsOrShrinks, resizing_phases}
use Rattle.rules.proofs.Calls.Checked.{checked-listed, checked_passed, accepted-header}
use Rattle.rules.proofs.Tables.Interims.{step-item}
use Rattle.rules.proofs.Basics.Lists.{never}
use Rattle.rules.proofs.Places.Placings.{placed-somewhere}
use Rattle.rules.proofs.Places.Lookups.{lookup-stands}

pub listed-one : {xs ys : List Store} → listed xs ≡ listed ys → ys ≡ xs
listed-one e = cc

pub never-listed : {A : Type 0} {r : Refusal} {xs : List Store} → refused r ≡ listed xs → A
never-listed e = absurd (let z : ◌≡◌ {A = ℕ} 0 1 = cc in omega arith)

module _ (t : Table) (h : Header) (xs : List Store) where
  placing-written : (key : ℕ) (r : Record) (p : Placing) → placed_by p (placing_stores t h p key r) ≡ listed xs → PlacingWritten t h key r p xs
  unfolding placing_stores move_stores put_stores clear_stores key_word token_word function_word place_word
  placing-written key r (Free x) e = listed-one e
  placing-written key r (Move from to) e = listed-one e
  placing-written key r Nowhere e = never-listed e

  insert-written : (key : ℕ) (r : Record) (o : Lookup) → insert_in t h o key r ≡ listed xs → PlacingWritten t h key r (placing t h key) xs
  insert-written key r (Stands x n) e = never-listed e
  insert-written key r (Absent n) e = placing-written key r (placing t h key) e

  pub update_with_lem : (x : Slot) (key : ℕ) (r : Record) (o : Option Slot) → xs ≡ update_with t h x o key r → UpdateWritten t h x key r o xs
  unfolding put_stores redo_stores key_word token_word function_word place_word
  update_with_lem x key r (some y) e = e
  update_with_lem x key r none e = e

  update-written : (key : ℕ) (r : Record) (o : Lookup) → ((x : Slot) (n : ℕ) → o ≡ Stands x n → FirstHolder t key x)
      → update_in t h o key r ≡ listed xs → Written t h (update key r) xs
  unfolding update_stores
  update-written key r (Stands x n) q e = (x, q x n refl, update_with_lem x key r (free_slot t h (place_of x)) (listed-one e))
  update-written key r (Absent n) q e = never-listed e

  delete-written : (key : ℕ) (o : Lookup) → ((x : Slot) (n : ℕ) → o ≡ Stands x n → FirstHolder t key x) → delete_in t h o ≡ listed xs
      → Written t h (delete key) xs
  unfolding clear_stores token_word
  delete-written key (Stands x n) q e = (x, q x n refl, listed-one e)
  delete-written key (Absent n) q e = never-listed e

  -- a step's stores are those of its placing, and then the interim token
  step_by : (x : Slot) (p : Placing) → somewhere p ≡ true → xs ≡ step_stores t h x p
      → (ys : List Store) × PlacingWritten t h (key_in t x) (record_in t x) p ys × (xs ≡ ys ++ clear_stores h (token_of t x.bucket) x)
  unfolding step_stores placing_stores move_stores put_stores key_word token_word function_word place_word
  step_by x (Free to) s e = (placing_stores t h (Free to) (key_in t x) (record_in t x), refl, e)
  step_by x (Move from to) s e = (placing_stores t h (Move from to) (key_in t x) (record_in t x), unfold clear_stores in refl, e)
  step_by x Nowhere s e = never s refl

  step-written : (b : ℕ) (o : Option Slot)
      → ((x : Slot) → o ≡ some x → FirstWithPlace t (InterimFrom t b) x × (somewhere (placing t h (key_in t x)) ≡ true))
      → step_in t h o ≡ listed xs → Written t h (step_from b) xs
  unfolding clear_stores token_word
  step-written b none q e = never-listed e
  step-written b (some x) q e = let r = step_by x (placing t h (key_in t x)) (q x refl).1 (listed-one e) in (x, (q x refl).0, r)

  -- turned by the phase
  back-written : GoodState h.c h.state → back_of h ≡ listed xs → Written t h back xs
  unfolding back_of back_tests at_rest turned_of shrinking state_stores state_word
  back-written good e =
      go (resizing_phases h.c h.state good
      (not-true _ (checked_passed _ xs (back_tests h) e (not (at_rest h.state), NotResizing) (here refl))))
    where
      stores : xs ≡ state_stores (turned_of h.state)
      stores = listed-one (checked-listed _ xs (back_tests h) e)

      go : GrowsOrShrinks h.c h.state → Written t h back xs
      go (inl (p, l, m)) = inr (p, rw (ne_eqb h.state.phase 2 (λ q. omega arith)) at stores)
      go (inr (p, l, m)) = inl (p, rw (eq-eqb h.state.phase 2 p) at stores)

  recover-written : (f : Finding) → recover_of t h f ≡ listed xs → RecoveryWritten t h f xs
  unfolding clear_stores redo_stores logged_of key_word token_word function_word place_word
  recover-written Sound e = listed-one e
  recover-written (Doubled kept later) e = listed-one e
  recover-written (Flagged x) e = listed-one e
  recover-written Neither e = never-listed e

  query-written : (o : Lookup) → query_in o ≡ listed xs → xs ≡ []
  query-written (Stands x n) e = listed-one e
  query-written (Absent n) e = never-listed e

pub stores_as_written : StoresAsWritten
unfolding outcome begin_of shrink_of step_of end_of state_stores state_word
stores_as_written t n (query key) xs e = query-written t (header_of t) xs (lookup t (header_of t) key) (checked-listed _ xs (tests_of t n (query key)) e)
stores_as_written t n (insert key r) xs e =
    insert-written t (header_of t) xs key r (lookup t (header_of t) key) (checked-listed _ xs (tests_of t n (insert key r)) e)
stores_as_written t n (update key r) xs e =
    update-written t (header_of t) xs key r (lookup t (header_of t) key) (λ x m q. (lookup-stands t key x m q).0)
    (checked-listed _ xs (tests_of t n (update key r)) e)
stores_as_written t n (delete key) xs e =
    delete-written t (header_of t) xs key (lookup t (header_of t) key) (λ x m q. (lookup-stands t key x m q).0) (checked-listed _ xs (tests_of t n (delete key)) e)
stores_as_written t n begin xs e = listed-one (checked-listed _ xs (begin_tests (header_of t)) (checked-listed _ xs (tests_of t n begin) e))
stores_as_written t n shrink xs e = listed-one (checked-listed _ xs (shrink_tests (header_of t)) (checked-listed _ xs (tests_of t n shrink) e))
stores_as_written t n back xs e =
    back-written t (header_of t) xs (accepted-header t n back xs e).state (checked-listed _ xs (tests_of t n back) e)
stores_as_written t n (step_from b) xs e =
    step-written t (header_of t) xs b (step_item t (header_of t) b)
    (λ x i. let f = step-item t b x i in (f, placed-somewhere t (header_of t) (key_in t x) f.place))
    (checked-listed _ xs (step_tests t (header_of t) b) (checked-listed _ xs (tests_of t n (step_from b)) e))
stores_as_written t n end xs e = listed-one (checked-listed _ xs (end_tests t (header_of t)) (checked-listed _ xs (tests_of t n end) e))
stores_as_written t n recover xs e = recover-written t (header_of t) xs (finding t) (checked-listed _ xs (tests_of t n recover) e)
