-- The decimal of a number is what `io::decimal` gives: the number's digits, and the fewest that hold it.
-- Assumes nothing.
use Prim.Native.Nat.{ℕ, zero, suc, ◌+◌, ◌-◌, ◌*◌, ◌/◌, ◌%◌, ◌^◌, ◌≤◌, ◌<◌}
use mathlib.Core.Path.{◌≡◌, sym}
use native.Mathlib.Nat.{pow-succ', one-le-pow}
use native.Mathlib.Omega.{arith}
use borrow.Author.Tests.{lt-ltb, le-ltb}
use Rattle.io.specs.Digits.{last_digits, IsDigitCount, hex_digit_ascii}
use Rattle.lines.specs.Texts.{digits_in, decimal_text}

digit : (n : ℕ) → hex_digit_ascii (n % 10) ≡ 48 + n % 10
digit n = rw (lt-ltb (n % 10) 10 (omega arith))

-- what has two digits or more is no smaller than that many digits ask
longer : (n r : ℕ) → IsDigitCount 10 1 n (suc (suc r)) → 10 ^ suc r ≤ n
longer n r f = let e : suc (suc r) - 1 ≡ suc r = omega arith in rw e at (f.2 (omega arith))

-- with as many steps as there are digits, or more
digits_in_lem : (k n r : ℕ) → r ≤ k → IsDigitCount 10 1 n r → digits_in k n ≡ last_digits 10 r n
unfolding digits_in
digits_in_lem zero n r h f = absurd (omega (arith, f.0))
digits_in_lem (suc k) n zero h f = absurd (omega (arith, f.0))
digits_in_lem (suc k) n (suc zero) h f = rw (lt-ltb n 10 (omega (arith, f.1)), digit n)
digits_in_lem (suc k) n (suc (suc r)) h f =
    let p : 10 ^ suc r ≤ n = longer n r f in
    let w : 10 ^ suc r ≡ 10 * 10 ^ r = pow-succ' 10 r in
    let v : 10 ^ suc (suc r) ≡ 10 * 10 ^ suc r = pow-succ' 10 (suc r) in
    let o : 1 ≤ 10 ^ r = one-le-pow r 10 (omega arith) in
    let e : suc r - 1 ≡ r = omega arith in
    let tenth : IsDigitCount 10 1 (n / 10) (suc r) = (omega arith, omega (arith, f.1), λ _. rw e (omega arith)) in
    rw (le-ltb n 10 (omega arith), digit n, digits_in_lem k (n / 10) (suc r) (omega arith) tenth)

below_power : (k : ℕ) → k < 10 ^ k
below_power zero = omega arith
below_power (suc k) = omega (arith, pow-succ' 10 k, below_power k)

-- n has at most n + 1 digits
few_digits : (n r : ℕ) → IsDigitCount 10 1 n r → r ≤ suc n
few_digits n zero f = omega arith
few_digits n (suc zero) f = omega arith
few_digits n (suc (suc r)) f = omega (arith, below_power (suc r), longer n r f)

pub decimal_is : (n r : ℕ) → IsDigitCount 10 1 n r → last_digits 10 r n ≡ decimal_text n
unfolding decimal_text
decimal_is n r f = sym (digits_in_lem (suc n) n r (few_digits n r f) f)
