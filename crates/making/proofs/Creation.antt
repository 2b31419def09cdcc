-- The tests of creation one by one, and the header written over zeroes.
-- Assumes nothing.
use Prim.Native.Nat.{ℕ, suc, ◌-◌, ◌%◌, ◌≤◌, ◌<◌}
use mathlib.Core.Path.{◌≡◌, refl, sym}
use mathlib.Core.Bool.{true, false, and-true}
use mathlib.Core.List.{◌∷◌, ◌++◌, append-nil}
use native.Mathlib.Nat.{add-zero}
use native.Mathlib.Omega.{arith}
use borrow.Author.Tests.{le-leb, lt-leb, eq-eqb, ne_eqb, eqb-true}
use lib.ListN.{length, drop, set, replicate}
use lib.Seq.{drop-length}
use lib.Dec.{eqb}
use Rattle.rules.specs.Choice.{all}
use Rattle.rules.specs.Forms.{form_good}
use Rattle.rules.specs.Words.{Table, words_for, odd, capacity_tests, state_word}
use Rattle.rules.specs.Results.{create_tests, created, create_result}
use Rattle.std.specs.Prelude.{Ok, Err}
use Rattle.rules.specs.declared.Refusal.TheVariants.{BadCreation}
use Rattle.rules.proofs.Basics.Tests.{all_yes, all_no}
use Rattle.making.specs.Promises.{Created}

module _ (size form c k mul1 mul2 : ℕ) where
  pub other-form : form_good form ≡ false → false ≡ all (create_tests size form c k mul1 mul2)
  unfolding create_tests
  other-form e = all_no (create_tests size form c k mul1 mul2) 0 e

  pub low_c : c < 1 → false ≡ all (create_tests size form c k mul1 mul2)
  unfolding create_tests capacity_tests
  low_c h = all_no (create_tests size form c k mul1 mul2) 1 (sym (all_no (capacity_tests c) 0 (lt-leb _ _ h)))

  pub high_c : 20 < c → false ≡ all (create_tests size form c k mul1 mul2)
  unfolding create_tests capacity_tests
  high_c h = all_no (create_tests size form c k mul1 mul2) 1 (sym (all_no (capacity_tests c) 1 (lt-leb _ _ h)))

  pub low_k : k < 1 → false ≡ all (create_tests size form c k mul1 mul2)
  unfolding create_tests
  low_k h = all_no (create_tests size form c k mul1 mul2) 2 (lt-leb _ _ h)

  pub high_k : c < k → false ≡ all (create_tests size form c k mul1 mul2)
  unfolding create_tests
  high_k h = all_no (create_tests size form c k mul1 mul2) 3 (lt-leb _ _ h)

  pub other-size : (size ≡ words_for c → ⊥) → false ≡ all (create_tests size form c k mul1 mul2)
  unfolding create_tests
  other-size h = all_no (create_tests size form c k mul1 mul2) 4 (ne_eqb _ _ h)

  pub even1 : (mul1 % 2 ≡ 1 → ⊥) → false ≡ all (create_tests size form c k mul1 mul2)
  unfolding create_tests odd
  even1 h = all_no (create_tests size form c k mul1 mul2) 5 (ne_eqb _ _ h)

  -- where the others pass, the last decides
  pub second : form_good form ≡ true → 1 ≤ c → c ≤ 20 → 1 ≤ k → k ≤ c → size ≡ words_for c → mul1 % 2 ≡ 1
      → eqb (mul2 % 2) 1 ≡ all (create_tests size form c k mul1 mul2)
  unfolding create_tests capacity_tests odd
  second f h0 h1 h2 h3 h4 h5 = simp (f, le-leb _ _ h0, le-leb _ _ h1, le-leb _ _ h2, le-leb _ _ h3, eq-eqb _ _ h4, eq-eqb _ _ h5, and-true)

-- zeroes as far as the table goes
pub zeroed : (n : ℕ) (t : Table) → n ≡ length t → replicate n 0 ++ drop n t ≡ replicate (length t) 0
zeroed n t e = rw (e, drop-length, append-nil)

-- stores to the first five of n zeroes
five_stores : (n a b c d e : ℕ) → 5 ≤ n → set (set (set (set (set (replicate n 0) 0 a) 1 b) 2 c) 3 d) 4 e ≡ a ∷ b ∷ c ∷ d ∷ e ∷ replicate (n - 5) 0
five_stores n a b c d e h = go (n - 5) (omega arith)
  where
    go : (m : ℕ) → n ≡ suc (suc (suc (suc (suc m)))) → set (set (set (set (set (replicate n 0) 0 a) 1 b) 2 c) 3 d) 4 e ≡ a ∷ b ∷ c ∷ d ∷ e ∷ replicate m 0
    go m q = rw q

room_for : (c : ℕ) → 9 ≤ words_for c
unfolding words_for
room_for c = omega arith

-- the answers of create
module _ (t : Table) (form c k mul1 mul2 : ℕ) where
  pub refused : all (create_tests (length t) form c k mul1 mul2) ≡ false → Created t form c k mul1 mul2 (Err BadCreation) t
  unfolding Created create_result
  refused e = rw e (record { answer = refl; table = refl })

  module _ (passed : all (create_tests (length t) form c k mul1 mul2) ≡ true) where
    size : length t ≡ words_for c
    unfolding create_tests
    size = eqb-true _ _ (all_yes (create_tests (length t) form c k mul1 mul2) passed 4)

    -- the header has room
    pub room : 9 ≤ length t
    room = rw size (room_for c)

    -- and is written over zeroes
    pub accepted : (u : Table) → u ≡ replicate (length t) 0 → Created t form c k mul1 mul2 (Ok tt) (set (set (set (set (set u 0 form) 1 c) 2 mul1) 3 mul2) 4 k)
    unfolding Created create_result created state_word
    accepted u e = rw (passed, e, size, add-zero k) (record { answer = refl; table = five_stores (words_for c) form c mul1 mul2 k (omega (arith, room_for c)) })
