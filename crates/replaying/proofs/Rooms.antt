-- The table is in the first of the lent words, or in all of them where there are fewer.
-- Assumes nothing.
use Rattle.std.proofs.Common.{◌≡◌, ℕ, ◌≤◌, min, List, length, take, drop, sym, ap, ◌∙◌, arith, drop_of_length-le, length-take-le, take_all}
use native.Mathlib.Decide.{dec_le}
use lib.Seq.{take-length, drop-length}

module _ (n : ℕ) (room : List ℕ) where
  pub take_least : take (min n (length room)) room ≡ take n room
  take_least = go (dec_le n (length room))
    where
      go : Dec (n ≤ length room) → take (min n (length room)) room ≡ take n room
      go (yes l) = let all : min n (length room) ≡ n = omega (arith, l) in rw all
      go (no l) =
          let few : min n (length room) ≡ length room = omega arith in
          ap (λ (k : ℕ). take k room) few ∙ take-length room ∙ sym (take_all n room (omega arith))

  pub drop_least : drop (min n (length room)) room ≡ drop n room
  drop_least = go (dec_le n (length room))
    where
      go : Dec (n ≤ length room) → drop (min n (length room)) room ≡ drop n room
      go (yes l) = let all : min n (length room) ≡ n = omega (arith, l) in rw all
      go (no l) =
          let few : min n (length room) ≡ length room = omega arith in
          ap (λ (k : ℕ). drop k room) few ∙ drop-length room ∙ sym (drop_of_length-le room {i = n} (omega arith))

  -- so many words are lent
  pub least_fits : {m : ℕ} → m ≡ min n (length room) → m ≡ length (take m room)
  least_fits {m} e = sym (length-take-le m room (omega (arith, e)))
