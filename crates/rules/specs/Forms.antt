-- Document 02, request g), "Form 2: better spread, and a tag for each slot". The form of a table decides two things and nothing else: what a
-- key hashes to, which is said here, and what a token word is, which is said in `Words`.
-- Assumes nothing.
use Rattle.std.specs.Prelude.{ℕ, ◌/◌, ◌%◌, ◌^◌, ◌≡◌, Bool, cond, [], ◌∷◌, ◌⊎◌, eqb}
use Rattle.std.specs.Int.Bits.{bit_xor}
use Rattle.words.specs.Product.{product_of}
use Rattle.rules.specs.Choice.{any}
use Rattle.rules.specs.declared.Header.{Header}

-- "Creation is told the form; any but 1 and 2 gives 13, and in a table 1"
unfoldable pub form_good : ℕ → Bool
form_good f = any (eqb f 1 ∷ eqb f 2 ∷ [])

-- the same as a fact
abbrev pub GoodForm : ℕ → Type 0
GoodForm f = (f ≡ 1) ⊎ (f ≡ 2)

-- "Form 2 also keeps an eight-bit tag for each taken slot in the token word"
unfoldable pub tagged : Header → Bool
tagged h = eqb h.form 2

-- what is hashed of a key. "In form 2, before hashing, a key is combined by exclusive or with itself divided by 2^32. Form 1 keeps the old rule"
unfoldable pub mixed : Header → ℕ → ℕ
mixed h key = cond (tagged h) (bit_xor key (key / 2 ^ 32)) key

-- the tag from a product, and of a key: "the hash 1 product modulo 2^64, divided by 2^24, modulo 256". In form 1 a key has none, which is written as 0
abbrev pub tag_from : Header → ℕ → ℕ
tag_from h product = cond (tagged h) (product / 2 ^ 24 % 256) 0

unfoldable pub tag_of : Header → ℕ → ℕ
tag_of h key = tag_from h (product_of (mixed h key) h.mul1)
