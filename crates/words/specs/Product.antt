-- The product and the hash of document 01, "Where a key may stand".
-- Assumes nothing.
use Rattle.std.specs.Prelude.{ℕ, ◌*◌, ◌/◌, ◌%◌, ◌^◌}

-- "the product K·Ai modulo 2^64"
unfoldable pub product_of : ℕ → ℕ → ℕ
product_of key multiplier = key * multiplier % 2 ^ 64

-- "hash i of key K is the product K·Ai modulo 2^64, divided by 2^32, rounded down"
unfoldable pub hash_of : ℕ → ℕ → ℕ
hash_of key multiplier = product_of key multiplier / 2 ^ 32
