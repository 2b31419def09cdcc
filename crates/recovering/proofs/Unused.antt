-- "every token word at most 15, and 0 in levels not in use", as the code goes through buckets and levels.
-- Assumes nothing.
use Prim.Native.Nat.{ℕ, ◌+◌, ◌-◌, ◌*◌, ◌^◌, ◌<◌, ◌≤◌}
use native.Mathlib.Omega.{arith}
use mathlib.Core.Path.{◌≡◌, refl, ap, ◌∙◌}
use mathlib.Core.Bool.{Bool, true, false, cond, not, ◌&&◌, ◌||◌}
use mathlib.Core.List.{List, [], ◌∷◌, map}
use lib.Dec.{eqb}
use Rattle.rules.specs.Choice.{all, select, from}
use Rattle.rules.specs.Words.{Table, GoodHeader, exponent_in_use, buckets_of, all_buckets, unused_buckets}
use Rattle.rules.specs.declared.Header.{Header}
use Rattle.rules.specs.declared.Level.{Level}
use Rattle.rules.proofs.Words.Headers.{bucket-fits, all-buckets_fit}
use Rattle.rules.proofs.Basics.Loops.{all-within}
use Rattle.recovering.specs.Found.{tidy_token, zero_token}

-- ---- the buckets of the table, and of a level

module _ (t : Table) (h : Header) where
  pub table-whole : {size : ℕ} → size ≡ 2 ^ (h.c + 1) → all (map (tidy_token t h) (all_buckets h)) ≡ all (map (tidy_token t h) (from 0 (size - 1)))
  unfolding all_buckets
  table-whole e = rw e refl

module _ (size : ℕ) (h : Header) (g : GoodHeader size h) where
  pub table-fits : {power : ℕ} → power ≡ 2 ^ (h.c + 1) → (j : ℕ) → j < power - 1 → 9 + 13 * j + 13 ≤ size
  table-fits q j b = all-buckets_fit size h g j q b

  pub level-fits : (e : ℕ) → e ≤ h.c → {power : ℕ} → power ≡ 2 ^ e → (j : ℕ) → j < 2 * power - 1 → 9 + 13 * j + 13 ≤ size
  level-fits e l q j b = bucket-fits size h g e j l (omega (arith, q, b))

pub level-whole : (t : Table) (e : ℕ) {size : ℕ} → size ≡ 2 ^ e → all (map (zero_token t) (buckets_of (2 ^ e))) ≡ all (map (zero_token t) (from (size - 1) size))
unfolding buckets_of
level-whole t e q = rw q refl

-- ---- the levels in use, and those not in use

abbrev pub uses : ℕ → Level → Bool
uses e l = eqb l.exponent e

all_others : {A : Type 0} (r p : A → Bool) (l : List A) → all (map p (select (λ (x : A). not (r x)) l)) ≡ all (map (λ (x : A). r x || p x) l)
all_others r p [] = refl
all_others r p (x ∷ xs) = go (r x) (all_others r p xs)
  where
    go : (b : Bool) → all (map p (select (λ x. not (r x)) xs)) ≡ all (map (λ x. r x || p x) xs)
        → all (map p (cond (not b) (x ∷ select (λ x. not (r x)) xs) (select (λ x. not (r x)) xs))) ≡ ((b || p x) && all (map (λ x. r x || p x) xs))
    go true e = e
    go false e = ap (λ z. p x && z) e

module _ (t : Table) (h : Header) where
  -- the level of 2^e buckets is in use, or empty
  abbrev pub level_fine : ℕ → Bool
  level_fine e = exponent_in_use h.state e || all (map (zero_token t) (buckets_of (2 ^ e)))

  pub unused-whole : all (map (zero_token t) (unused_buckets h)) ≡ all (map level_fine (from 0 (h.c + 1)))
  unfolding unused_buckets
  unused-whole =
      all-within (zero_token t) (λ (e : ℕ). buckets_of (2 ^ e)) (select (λ (e : ℕ). not (exponent_in_use h.state e)) (from 0 (h.c + 1)))
      ∙ all_others (exponent_in_use h.state) (λ (e : ℕ). all (map (zero_token t) (buckets_of (2 ^ e)))) (from 0 (h.c + 1))
