-- "number": how many stores an accepted call lists, at most ten, and that they fit into the list that its tests asked for.
-- Assumes nothing.
use Prim.Native.Nat.{ℕ, ◌*◌, ◌≤◌}
use mathlib.Core.Path.{◌≡◌, refl, ap}
use mathlib.Core.Bool.{Bool}
use mathlib.Core.List.Memᴰ.{head as here}
use mathlib.Core.List.Memᴰ.{tail as there}
use mathlib.Core.List.{List, Memᴰ as In}
use mathlib.Core.Logic.{◌⊎◌, inl, inr, ⊎_elim}
use mathlib.Core.Option.{Option, none, some}
use native.Mathlib.Omega.{arith}
use lib.ListN.{length, length-append}
use borrow.Author.Tests.{leb-true}
use Rattle.rules.specs.Words.{Table, header_of, place_of, key_in, record_in}
use Rattle.rules.specs.Placing.{free_slot, placing}
use Rattle.rules.specs.Soundness.{finding}
use Rattle.rules.specs.Stores.{Store}
use Rattle.rules.specs.Calls.{list_long, changing_tests, recover_tests, listed, Call, query, insert, update, delete, begin, shrink, back, step_from, end}
use Rattle.rules.specs.Calls.{recover, tests_of, outcome}
use Rattle.rules.specs.Demands.{PlacingWritten, UpdateWritten, RecoveryWritten, Written, Number, StoreNumbers}
use Rattle.rules.specs.declared.Header.{Header}
use Rattle.rules.specs.declared.Slot.{Slot}
use Rattle.rules.specs.declared.Record.{Record}
use Rattle.rules.specs.declared.Placing.{Placing}
use Rattle.rules.specs.declared.Placing.TheVariants.{Free, Move, Nowhere}
use Rattle.rules.specs.declared.Finding.{Finding}
use Rattle.rules.specs.declared.Finding.TheVariants.{Sound, Doubled, Flagged, Neither}
use Rattle.rules.specs.declared.Refusal.{Refusal}
use Rattle.rules.specs.declared.Refusal.TheVariants.{ShortList}
use Rattle.rules.proofs.Calls.Checked.{checked_passed}
use Rattle.rules.proofs.Calls.StoreLists.{stores_as_written}

module _ (t : Table) (h : Header) where
  placing-number : (xs : List Store) (key : ℕ) (r : Record) (p : Placing) → PlacingWritten t h key r p xs → (length xs ≡ 4) ⊎ (length xs ≡ 9)
  placing-number xs key r (Free x) e = inl (ap length e)
  placing-number xs key r (Move from to) e = inr (ap length e)
  placing-number xs key r Nowhere e = absurd e

  update-number : (xs : List Store) (x : Slot) (key : ℕ) (r : Record) (o : Option Slot) → UpdateWritten t h x key r o xs
      → (length xs ≡ 4) ⊎ (length xs ≡ 7)
  update-number xs x key r (some y) e = inl (ap length e)
  update-number xs x key r none e = inr (ap length e)

  recovery_number : (xs : List Store) (f : Finding) → RecoveryWritten t h f xs → (length xs ≡ 0) ⊎ ((length xs ≡ 1) ⊎ (length xs ≡ 3))
  recovery_number xs Sound e = inl (ap length e)
  recovery_number xs (Doubled kept later) e = inr (inl (ap length e))
  recovery_number xs (Flagged x) e = inr (inr (ap length e))
  recovery_number xs Neither e = absurd e

  written-number : (xs : List Store) (q : Call) → Written t h q xs → Number q (length xs)
  written-number xs (query key) e = ap length e
  written-number xs (insert key r) e = placing-number xs key r (placing t h key) e
  written-number xs (update key r) (x, s, e) = update-number xs x key r (free_slot t h (place_of x)) e
  written-number xs (delete key) (x, s, e) = ap length e
  written-number xs begin e = ap length e
  written-number xs shrink e = ap length e
  written-number xs back e = ⊎_elim (λ k. ap length k.1) (λ k. ap length k.1) e
  written-number xs (step_from b) (x, s, (ys, w, e)) =
      ⊎_elim (λ (k : length ys ≡ 4). inl (rw (e, length-append, k))) (λ (k : length ys ≡ 9). inr (rw (e, length-append, k)))
      (placing-number ys (key_in t x) (record_in t x) (placing t h (key_in t x)) w)
  written-number xs end e = ap length e
  written-number xs recover e = recovery_number xs (finding t) e

few : (m : ℕ) {n : ℕ} → m ≤ 10 → n ≡ m → n ≤ 10
few m h e = omega arith

number-few : (q : Call) (n : ℕ) → Number q n → n ≤ 10
number-few (query key) n e = few 0 (omega arith) e
number-few (insert key r) n e = ⊎_elim (few 4 (omega arith)) (few 9 (omega arith)) e
number-few (update key r) n e = ⊎_elim (few 4 (omega arith)) (few 7 (omega arith)) e
number-few (delete key) n e = few 1 (omega arith) e
number-few begin n e = few 1 (omega arith) e
number-few shrink n e = few 1 (omega arith) e
number-few back n e = few 1 (omega arith) e
number-few (step_from b) n e = ⊎_elim (few 5 (omega arith)) (few 10 (omega arith)) e
number-few end n e = few 1 (omega arith) e
number-few recover n e = ⊎_elim (few 0 (omega arith)) (⊎_elim (few 1 (omega arith)) (few 3 (omega arith))) e

pub store_numbers : StoreNumbers
store_numbers t n q xs e = let k = written-number t (header_of t) xs q (stores_as_written t n q xs e) in (k, number-few q (length xs) k)

-- a call that lists any store has asked for a list of 20 words
module _ (t : Table) (n : ℕ) where
  list_tested : (q : Call) → ((k : ℕ) → Number q k → k ≡ 0) ⊎ In {A = Bool × Refusal} (list_long n, ShortList) (tests_of t n q)
  unfolding changing_tests recover_tests
  list_tested (query key) = inl (λ k e. e)
  list_tested (insert key r) = inr (there (here refl))
  list_tested (update key r) = inr (there (here refl))
  list_tested (delete key) = inr (there (here refl))
  list_tested begin = inr (there (here refl))
  list_tested shrink = inr (there (here refl))
  list_tested back = inr (there (here refl))
  list_tested (step_from b) = inr (there (here refl))
  list_tested end = inr (there (here refl))
  list_tested recover = inr (there (here refl))

  pub stores_fit : (q : Call) (xs : List Store) → outcome t n q ≡ listed xs → 2 * length xs ≤ n
  unfolding outcome list_long
  stores_fit q xs e = go (store_numbers t n q xs e) (list_tested q)
    where
      go : Number q (length xs) × (length xs ≤ 10)
          → ((k : ℕ) → Number q k → k ≡ 0) ⊎ In {A = Bool × Refusal} (list_long n, ShortList) (tests_of t n q)
          → 2 * length xs ≤ n
      go s (inl z) = omega (arith, z (length xs) s.0)
      go s (inr i) = omega (arith, leb-true 20 n (checked_passed _ xs (tests_of t n q) e (list_long n, ShortList) i), s.1)
