-- "Bucket j starts at word 9 + 13j: one token word, then four slots of three words .. Slot s starts at offset 1 + 3s": the words of
-- the header, the token words and the slots' words are all apart.
-- Assumes nothing.
use Prim.Native.Nat.{ℕ, ◌+◌, ◌≤◌, ◌<◌}
use mathlib.Core.Path.{◌≡◌}
use native.Mathlib.Decide.{dec_le}
use native.Mathlib.Omega.{arith}
use Rattle.rules.specs.Words.{token_word, key_word}
use Rattle.rules.specs.declared.Slot.{Slot}

-- word i is a word of slot x: key, function or place
abbrev pub Of : Slot → ℕ → Type 0
Of x i = (key_word x ≤ i) × (i ≤ key_word x + 2)

-- a word of a slot is no token word
pub off_token : (x : Slot) (j i : ℕ) → x.slot < 4 → Of x i → i ≡ token_word j → ⊥
unfolding token_word key_word
off_token x j i low within e = go (dec_le j x.bucket)
  where
    go : Dec (j ≤ x.bucket) → ⊥
    go (yes l) = omega arith
    go (no l) = omega arith

-- it is a word of one slot
pub of_one : (x y : Slot) (i : ℕ) → x.slot < 4 → y.slot < 4 → Of x i → Of y i → (x.bucket ≡ y.bucket) × (x.slot ≡ y.slot)
unfolding token_word key_word
of_one x y i low less a b = let bucket : x.bucket ≡ y.bucket = omega arith in (bucket, omega arith)

pub key-word-one : (x y : Slot) → x.slot < 4 → y.slot < 4 → key_word x ≡ key_word y → (x.bucket ≡ y.bucket) × (x.slot ≡ y.slot)
key-word-one x y low less e = of_one x y (key_word x) low less (omega arith) (omega arith)
