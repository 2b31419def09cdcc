-- A header with one thing wrong fails its tests, and with nothing else wrong the state decides.
-- Assumes nothing.
use Prim.Native.Nat.{ℕ, ◌%◌, ◌≤◌, ◌<◌}
use mathlib.Core.Path.{◌≡◌, refl, sym}
use mathlib.Core.Bool.{Bool, true, false, and-true}
use mathlib.Core.List.{[], ◌∷◌}
use native.Mathlib.Omega.{arith}
use borrow.Author.Tests.{lt-leb, le-leb, eq-eqb, ne_eqb}
use lib.Dec.{eqb}
use lib.ListN.{length}
use Rattle.rules.specs.Choice.{all, any}
use Rattle.rules.specs.Forms.{form_good}
use Rattle.rules.specs.Words.{Table, words_for, state_good, odd, capacity_tests, header_tests, header_of}
use Rattle.rules.specs.Calls.{header_good}
use Rattle.rules.specs.declared.Header.{Header}
use Rattle.rules.proofs.Basics.Tests.{all_no}

module _ (size : ℕ) (h : Header) where
  pub low : h.c < 1 → false ≡ all (header_tests size h)
  unfolding header_tests capacity_tests
  low e = all_no (header_tests size h) 0 (sym (all_no (capacity_tests h.c) 0 (lt-leb _ _ e)))

  pub high : 20 < h.c → false ≡ all (header_tests size h)
  unfolding header_tests capacity_tests
  high e = all_no (header_tests size h) 0 (sym (all_no (capacity_tests h.c) 1 (lt-leb _ _ e)))

  pub wrong_length : (size ≡ words_for h.c → ⊥) → false ≡ all (header_tests size h)
  unfolding header_tests
  wrong_length e = all_no (header_tests size h) 1 (ne_eqb _ _ e)

  pub wrong_form : form_good h.form ≡ false → false ≡ all (header_tests size h)
  unfolding header_tests
  wrong_form e = all_no (header_tests size h) 2 e

  pub even1 : (h.mul1 % 2 ≡ 1 → ⊥) → false ≡ all (header_tests size h)
  unfolding header_tests odd
  even1 e = all_no (header_tests size h) 3 (ne_eqb _ _ e)

  pub even2 : (h.mul2 % 2 ≡ 1 → ⊥) → false ≡ all (header_tests size h)
  unfolding header_tests odd
  even2 e = all_no (header_tests size h) 4 (ne_eqb _ _ e)

  pub by_state : 1 ≤ h.c → h.c ≤ 20 → size ≡ words_for h.c → form_good h.form ≡ true → h.mul1 % 2 ≡ 1 → h.mul2 % 2 ≡ 1
      → state_good h.c h.state ≡ all (header_tests size h)
  unfolding header_tests capacity_tests odd
  by_state a b l f m n = rw (le-leb _ _ a, le-leb _ _ b, eq-eqb _ _ l, f, eq-eqb _ _ m, eq-eqb _ _ n, and-true)

-- a table without room for the header's nine words is too short for every c
pub too_short : (t : Table) → length t < 9 → header_good t ≡ false
unfolding header_good words_for
too_short t l = sym (wrong_length (length t) (header_of t) (λ e. omega arith))

-- the two forms
pub form-one : (f : ℕ) → f ≡ 1 → true ≡ form_good f
unfolding form_good
form-one f e = rw (eq-eqb _ _ e)

pub form-other : (f : ℕ) → (f ≡ 1 → ⊥) → eqb f 2 ≡ form_good f
unfolding form_good
form-other f e = rw (ne_eqb _ _ e) (last (eqb f 2))
  where
    last : (b : Bool) → b ≡ any (b ∷ [])
    last true = refl
    last false = refl
