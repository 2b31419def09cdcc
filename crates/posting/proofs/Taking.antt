-- What is left of a part, byte by byte.
-- Assumes nothing.
use Rattle.std.proofs.Common.{◌≡◌, ℕ, ◌+◌, ◌<◌, ◌≤◌, List, length, get_or, drop, add-one, drop-cons, drop_of_length-le}
use Rattle.posting.specs.Posts.{Post, after_byte, after_bytes}

module _ (x : Post) (part : List ℕ) (i : ℕ) where
  pub one_taken : i < length part → after_bytes x (drop i part) ≡ after_bytes (after_byte x (get_or part i 0)) (drop (i + 1) part)
  unfolding after_bytes
  one_taken l = rw (drop-cons part i 0 l, add-one i)

  pub all_taken : length part ≤ i → after_bytes x (drop i part) ≡ x
  unfolding after_bytes
  all_taken l = rw (drop_of_length-le part {i = i} l)
