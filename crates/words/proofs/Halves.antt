-- The product of two words from their half words.
-- Assumes nothing.
use Rattle.std.proofs.Common.{◌≡◌, ℕ, ◌+◌, ◌*◌, ◌/◌, ◌%◌, ◌^◌, ◌<◌, sym, refl, ◌∙◌, lt_of_le_of_lt, le_of_lt, add_assoc, mul_assoc, mul_comm, add-mul, add_comm, mul-le-mul_left, mul-lt-mul_of_pos_right, div-add-mod', mul-add, mul_left_comm, arith, pow_pos, pow-add}
use mathlib.Core.Path.{subst⁻¹}
use native.Mathlib.Nat.{add_left_comm}

-- the product of two numbers of k bits has at most k + k
pub below : (k : ℕ) {a b : ℕ} → a < 2 ^ k → b < 2 ^ k → a * b < 2 ^ (k + k)
below k {a} {b} ha hb =
    subst⁻¹ (λ (n : ℕ). a * b < n) (pow-add 2 k k)
    (lt_of_le_of_lt (mul-le-mul_left a (le_of_lt hb)) (mul-lt-mul_of_pos_right ha (pow_pos k)))

columns : (P a₀ a₁ b₀ b₁ : ℕ) → (a₁ * P + a₀) * (b₁ * P + b₀) ≡ (P * P) * (a₁ * b₁) + P * (a₀ * b₁ + a₁ * b₀) + a₀ * b₀
columns P a₀ a₁ b₀ b₁ = simp (mul-add, add-mul, mul_assoc, mul_comm, mul_left_comm, add_assoc, add_comm, add_left_comm) refl

halves : (P a b : ℕ) → a * b ≡ (P * P) * (a / P * (b / P)) + P * (a % P * (b / P) + a / P * (b % P)) + a % P * (b % P)
halves P a b = (λ i. sym (div-add-mod' a P) i * sym (div-add-mod' b P) i) ∙ columns P (a % P) (a / P) (b % P) (b / P)

-- what the code sums is the product modulo 2^64
pub wrapped : (a b : ℕ) →
    (a % 2 ^ 32 * (b % 2 ^ 32) + (a % 2 ^ 32 * (b / 2 ^ 32) + a / 2 ^ 32 * (b % 2 ^ 32)) % 2 ^ 64 % 2 ^ 32 * 2 ^ 32) % 2 ^ 64
    ≡ a * b % 2 ^ 64
wrapped a b = omega (arith, halves (2 ^ 32) a b)
