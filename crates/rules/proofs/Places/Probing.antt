-- Where a key may stand, and the probe order, without the definitions that make them: the buckets of its two places in a level,
-- and "top, bottom, interim; in each, first place, then second if different".
-- Assumes nothing.
use Prim.Native.Nat.{ℕ, ◌+◌, ◌-◌, ◌*◌, ◌/◌, ◌%◌, ◌^◌}
use mathlib.Core.Path.{◌≡◌, refl}
use mathlib.Core.Bool.{true, false}
use mathlib.Core.List.{[], ◌∷◌, ◌++◌, flat_map, append-nil}
use borrow.Author.Tests.{eq-eqb, ne_eqb}
use Rattle.words.specs.Product.{product_of, hash_of}
use Rattle.rules.specs.Forms.{mixed}
use Rattle.rules.specs.Words.{at_rest, size_of, top_of, bottom_of, interim_of, levels_in_use, place_at}
use Rattle.rules.specs.Places.{hashes_of, first_place, second_place, same_place, places_in, probes}
use Rattle.rules.specs.declared.State.{State}
use Rattle.rules.specs.declared.Header.{Header}
use Rattle.rules.specs.declared.Level.{Level}
use Rattle.rules.specs.declared.Hashes.{Hashes}

-- "hash i of key K is the product K·Ai modulo 2^64, divided by 2^32, rounded down", of what is hashed of the key. "In a level of M buckets the first and second
-- places are hash 1 modulo M and hash 2 modulo M"; "A level of M buckets .. is always buckets M − 1 to 2M − 2."
module _ (h : Header) (key : ℕ) (l : Level) where
  pub first-bucket : (first_place (hashes_of h key) l).bucket ≡ size_of l - 1 + (mixed h key * h.mul1 % 2 ^ 64 / 2 ^ 32) % size_of l
  unfolding first_place place_at hashes_of hash_of product_of
  first-bucket = refl

  pub second-bucket : (second_place (hashes_of h key) l).bucket ≡ size_of l - 1 + (mixed h key * h.mul2 % 2 ^ 64 / 2 ^ 32) % size_of l
  unfolding second_place place_at hashes_of hash_of product_of
  second-bucket = refl

module _ (x : Hashes) where
  -- "They may coincide; then they are one bucket."
  pub places_one : (l : Level) → (first_place x l).bucket ≡ (second_place x l).bucket → places_in x l ≡ first_place x l ∷ []
  unfolding places_in same_place
  places_one l e = rw (eq-eqb _ _ e)

  pub places_two : (l : Level) → ((first_place x l).bucket ≡ (second_place x l).bucket → ⊥) → places_in x l ≡ first_place x l ∷ second_place x l ∷ []
  unfolding places_in same_place
  places_two l e = rw (ne_eqb _ _ e)

  pub probes_at_rest : (s : State) → at_rest s ≡ true → probes s x ≡ places_in x (top_of s) ++ places_in x (bottom_of s)
  unfolding probes levels_in_use flat_map
  probes_at_rest s e = rw e (rw append-nil)

  pub probes-resizing : (s : State) → at_rest s ≡ false → probes s x ≡ places_in x (top_of s) ++ (places_in x (bottom_of s) ++ places_in x (interim_of s))
  unfolding probes levels_in_use flat_map
  probes-resizing s e = rw e (rw append-nil)
