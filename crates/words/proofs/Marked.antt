-- The hashes that the marked examples of document 01 are computed with.
-- Assumes nothing.
use Rattle.std.proofs.Common.{◌≡◌, ℕ, ◌+◌, ◌*◌, ◌%◌, ◌^◌, ◌<◌, ◌∙◌, mod-eq_of_lt, arith}
use lib.Pow.{high, field}
use Rattle.words.specs.Product.{product_of, hash_of}

-- "With these multipliers, for K below 2^32, hash 1 is K and hash 2 is 3K modulo 2^32."
pub marked_hashes : (key : ℕ) → key < 2 ^ 32 → (hash_of key 4294967297 ≡ key) × (hash_of key 12884901889 ≡ 3 * key % 2 ^ 32)
unfolding hash_of product_of
marked_hashes key h =
    let one : key * 4294967297 ≡ key * 2 ^ 32 + key = omega arith in
    let two : key * 12884901889 ≡ 3 * key * 2 ^ 32 + key = omega arith in (
      field (key * 4294967297) 32 32 ∙ rw (one, high key 32 h) (mod-eq_of_lt h),
      field (key * 12884901889) 32 32 ∙ rw (two, high (3 * key) 32 h),
    )
