-- A line's digits from byte i on, read after others that gave v; and when the digits are a decimal.
-- Assumes nothing.
use Prim.Native.Nat.{ℕ, suc, ◌+◌, ◌-◌, ◌*◌, ◌^◌, ◌≤◌, ◌<◌}
use mathlib.Core.Path.{◌≡◌, refl}
use mathlib.Core.Bool.{true, false, and-false}
use mathlib.Core.List.{List, [], ◌∷◌}
use mathlib.Core.Option.{none, some}
use native.Mathlib.Numerals.{add-one}
use native.Mathlib.Omega.{arith}
use borrow.Author.Tests.{lt-ltb, le-ltb, eq-eqb, ne_eqb}
use lib.ListN.{length, drop, get_or, drop_of_length-le}
use lib.Seq.{drop-cons}
use Rattle.lines.specs.Lines.{is_digit, value_from, no_leading_zero, decimal_of}
use Rattle.lines.specs.Found.{digits_from}

-- further digits make no number smaller
value_grows : (v : ℕ) (ds : List ℕ) → v ≤ value_from v ds
value_grows v [] = omega arith
value_grows v (d ∷ ds) = omega (arith, value_grows (10 * v + (d - 48)) ds)

pub digits_none_left : (v : ℕ) (line : List ℕ) (i : ℕ) → v < 2 ^ 64 → length line ≤ i → digits_from v (drop i line) ≡ some v
unfolding digits_from
digits_none_left v line i small h = rw (drop_of_length-le line h, lt-ltb v (2 ^ 64) small)

module _ (v : ℕ) (line : List ℕ) (i : ℕ) (more : i < length line) where
  pub digit_wrong : is_digit (get_or line i 0) ≡ false → digits_from v (drop i line) ≡ none
  unfolding digits_from
  digit_wrong e = rw (drop-cons line i 0 more, e)

  pub digit_too_large : 2 ^ 64 ≤ v * 10 + (get_or line i 0 - 48) → digits_from v (drop i line) ≡ none
  unfolding digits_from
  digit_too_large h =
      let n : ℕ = 10 * v + (get_or line i 0 - 48) in
      simp (drop-cons line i 0 more, le-ltb (value_from n (drop (suc i) line)) (2 ^ 64) (omega (arith, value_grows n (drop (suc i) line))), and-false)

  pub digit_read : {w : ℕ} → w ≡ v * 10 + (get_or line i 0 - 48) → is_digit (get_or line i 0) ≡ true
      → digits_from v (drop i line) ≡ digits_from w (drop (i + 1) line)
  unfolding digits_from
  digit_read {w} same e = let next : w ≡ 10 * v + (get_or line i 0 - 48) = omega arith in rw (add-one, drop-cons line i 0 more, e, next)

-- ---- a decimal

decimal_digits : (ds : List ℕ) → no_leading_zero ds ≡ true → decimal_of ds ≡ digits_from 0 ds
unfolding decimal_of digits_from
decimal_digits ds e = rw e

pub not_zero_first : (d : ℕ) (ds : List ℕ) → (d ≡ 48 → ⊥) → no_leading_zero (d ∷ ds) ≡ true
not_zero_first d [] n = refl
not_zero_first d (e ∷ ds) n = rw (ne_eqb _ _ n)

pub nothing_there : (ds : List ℕ) → length ds < 1 → decimal_of ds ≡ none
unfolding decimal_of
nothing_there [] h = refl
nothing_there (d ∷ ds) h = absurd (omega arith)

pub zero_before-others : (ds : List ℕ) → 2 ≤ length ds → get_or ds 0 0 ≡ 48 → decimal_of ds ≡ none
unfolding decimal_of
zero_before-others [] h z = absurd (omega arith)
zero_before-others (d ∷ []) h z = absurd (omega arith)
zero_before-others (d ∷ (e ∷ ds)) h z = rw (eq-eqb _ _ z)

pub one_digit : (ds : List ℕ) → 1 ≤ length ds → length ds < 2 → decimal_of ds ≡ digits_from 0 ds
one_digit [] h l = absurd (omega arith)
one_digit (d ∷ []) h l = decimal_digits _ refl
one_digit (d ∷ (e ∷ ds)) h l = absurd (omega arith)

pub no_zero_before : (ds : List ℕ) → 1 ≤ length ds → (get_or ds 0 0 ≡ 48 → ⊥) → decimal_of ds ≡ digits_from 0 ds
no_zero_before [] h n = absurd (omega arith)
no_zero_before (d ∷ ds) h n = decimal_digits _ (not_zero_first d ds n)
