-- The first pairs of a list, one after the other, as the tests and the stores of make go through them.
-- Assumes nothing.
use Prim.Native.Nat.{ℕ, zero, suc, ◌-◌, ◌*◌, ◌/◌, ◌≤◌, ◌<◌}
use mathlib.Core.Path.{◌≡◌, refl, sym, ap, ◌∙◌}
use mathlib.Core.Bool.{true, false, and-false}
use mathlib.Core.List.{List, [], ◌∷◌, map}
use native.Mathlib.Omega.{arith}
use borrow.Author.Tests.{lt-ltb, le-ltb, le-leb, lt-leb, ltb-true}
use lib.ListN.{length, get_or, take, drop, set}
use lib.Seq.{take_all}
use lib.Dec.{ltb}
use Rattle.rules.specs.Words.{Table, word}
use Rattle.rules.specs.Stores.{Store, pairs, made}
use Rattle.rules.specs.Results.{make_tests, make_result}
use Rattle.std.specs.Prelude.{Ok, Err}
use Rattle.rules.specs.declared.Refusal.TheVariants.{BadMaking}
use Rattle.rules.proofs.Basics.Tests.{all_yes}
use Rattle.making.specs.Promises.{Made}
use Rattle.making.specs.Indexes.{inside}

-- the pairs of a list
pub pairs_in : List ℕ → List Store
pairs_in [] = []
pairs_in (index ∷ []) = []
pairs_in (index ∷ word ∷ others) = (index, word) ∷ pairs_in others

-- the first n
pub pairs_taken : (n : ℕ) (l : List ℕ) → 2 * n ≤ length l → pairs_in (take (2 * n) l) ≡ pairs n l
unfolding pairs_in
pairs_taken zero l h = refl
pairs_taken (suc n) [] h = absurd (omega arith)
pairs_taken (suc n) (x ∷ []) h = absurd (omega arith)
pairs_taken (suc n) (x ∷ y ∷ l) h =
    let e : 2 * suc n ≡ suc (suc (2 * n)) = omega arith in
    rw e (ap (λ (r : List Store). (x, y) ∷ r) (pairs_taken n l (omega arith)))

-- no pair is left
pub no_pairs : (l : List ℕ) → length l < 2 → pairs_in l ≡ []
unfolding pairs_in
no_pairs [] h = refl
no_pairs (x ∷ []) h = refl
no_pairs (x ∷ y ∷ l) h = absurd (omega arith)

module _ (l : List ℕ) (more : 2 ≤ length l) where
  -- the first pair, and the others
  abbrev pub others : List ℕ
  others = take (length l - 2) (drop 2 l)

  pub first_pair : pairs_in l ≡ (get_or l 0 0, get_or l 1 0) ∷ pairs_in others
  unfolding pairs_in
  first_pair = go l more
    where
      go : (l : List ℕ) → 2 ≤ length l → pairs_in l ≡ (get_or l 0 0, get_or l 1 0) ∷ pairs_in (take (length l - 2) (drop 2 l))
      go [] h = absurd (omega arith)
      go (x ∷ []) h = absurd (omega arith)
      go (x ∷ y ∷ l) h =
          let e : suc (suc (length l)) - 2 ≡ length l = omega arith in
          rw (e, take_all (length l) l (omega arith)) refl

  -- the test of the first
  pub index_outside : (size : ℕ) → size ≤ get_or l 0 0 → inside size (pairs_in l) ≡ false
  unfolding inside
  index_outside size h = rw (first_pair, le-ltb _ _ h)

  pub index-inside : (size : ℕ) → get_or l 0 0 < size → inside size (pairs_in l) ≡ inside size (pairs_in others)
  unfolding inside
  index-inside size h = rw (first_pair, lt-ltb _ _ h)

  -- and what it says where all pass
  pub indexes-inside : (size : ℕ) → inside size (pairs_in l) ≡ true → (get_or l 0 0 < size) × (inside size (pairs_in others) ≡ true)
  unfolding inside
  indexes-inside size e =
      let tests = map (λ (x : Store). ltb x.0 size) ((get_or l 0 0, get_or l 1 0) ∷ pairs_in others) in
      let h : get_or l 0 0 < size = ltb-true _ _ (all_yes tests (rw first_pair at e) 0) in
      (h, sym (index-inside size h) ∙ e)

  pub stored : (t : Table) → made t (pairs_in l) ≡ made (set t (get_or l 0 0) (get_or l 1 0)) (pairs_in others)
  stored t = rw first_pair

-- the answers of make
module _ (t : Table) (l : List ℕ) (n : ℕ) where
  pub few-pairs : length l / 2 < n → Made t l n (Err BadMaking) t l
  unfolding Made make_result make_tests
  few-pairs h = rw (lt-leb (2 * n) (length l) (omega arith)) (record { answer = refl; table = refl }, refl)

  pub outside : inside (length t) (pairs n l) ≡ false → Made t l n (Err BadMaking) t l
  unfolding Made make_result make_tests inside
  outside e = simp (e, and-false) (record { answer = refl; table = refl }, refl)

  pub all_made : {u : Table} → 2 * n ≤ length l → inside (length t) (pairs n l) ≡ true → u ≡ made t (pairs n l) → Made t l n (Ok tt) u l
  unfolding Made make_result make_tests inside
  all_made h e m = rw (le-leb (2 * n) (length l) h, e) (record { answer = refl; table = m }, refl)
