-- The place of a hash in a level, from the level's first bucket, and the places of a key there: one, or two where they differ.
-- Assumes nothing.
use Prim.Native.Nat.{ℕ, zero, suc, ◌+◌, ◌-◌, ◌*◌, ◌/◌, ◌%◌, ◌^◌, ◌≤◌, ◌<◌}
use mathlib.Core.Path.{◌≡◌, sym, ap, ◌∙◌}
use mathlib.Core.List.{[], ◌∷◌}
use native.Mathlib.Omega.{arith}
use native.Mathlib.Nat.{sub-zero, pow-suc, mul_comm, mod-lt, div-div-eq-div-mul}
use lib.Bits.{and_mask}
use lib.Pow.{pow_pos}
use Rattle.rules.specs.Words.{size_of, place_at}
use Rattle.rules.specs.Places.{first_place, second_place, places_in}
use Rattle.rules.specs.declared.Level.{Level}
use Rattle.rules.specs.declared.Hashes.{Hashes}
use Rattle.rules.specs.declared.Place.{Place}
use Rattle.rules.proofs.Places.Probing.{places_one, places_two}
use Rattle.reading.specs.Levels.{place_from, place_in}

-- a level's first bucket is all ones in binary, and so picks the remainder by the level's size
pub placed : (l : Level) (hash : ℕ) {first : ℕ} {p : Place} → first ≡ size_of l - 1 → p ≡ place_from l.name first hash
    → (p ≡ place_in l hash) × (p.bucket + 1 < 2 * size_of l)
unfolding place_at
placed l hash {p = p} e q = (there, rw there (omega (arith, pow_pos l.exponent, mod-lt hash (pow_pos l.exponent))))
  where
    there : p ≡ place_at l (size_of l - 1 + hash % size_of l)
    there = rw (q, e, and_mask hash l.exponent)

-- where sizes halve, so do the ones in their first buckets
pub ones_fewer : (k n : ℕ) → n ≤ k → (2 ^ k - 1) / 2 ^ n ≡ 2 ^ (k - n) - 1
ones_fewer k zero l = rw sub-zero (omega arith)
ones_fewer zero (suc n) l = absurd (omega arith)
ones_fewer (suc k) (suc n) l =
    let less : suc k - suc n ≡ k - n = omega arith in
    let twice : 2 ^ suc k ≡ 2 ^ k * 2 = pow-suc 2 k in
    let half : (2 ^ suc k - 1) / 2 ≡ 2 ^ k - 1 = omega (arith, twice, pow_pos k) in
    let halved : 2 ^ suc n ≡ 2 * 2 ^ n = pow-suc 2 n ∙ mul_comm (2 ^ n) 2 in
    ap (λ (m : ℕ). (2 ^ suc k - 1) / m) halved
    ∙ sym (div-div-eq-div-mul (2 ^ suc k - 1) 2 (2 ^ n))
    ∙ ap (λ (m : ℕ). m / 2 ^ n) half
    ∙ ones_fewer k n (omega arith)
    ∙ ap (λ (m : ℕ). 2 ^ m - 1) (sym less)

module _ (x : Hashes) (l : Level) {f s : Place} (p : f ≡ place_in l x.first) (q : s ≡ place_in l x.second) where
  first : f ≡ first_place x l
  unfolding first_place
  first = p

  second : s ≡ second_place x l
  unfolding second_place
  second = q

  pub same : f.bucket ≡ s.bucket → f ∷ [] ≡ places_in x l
  same h = rw (places_one x l (rw (← first, ← second) h), ← first)

  pub apart : (f.bucket ≡ s.bucket → ⊥) → f ∷ s ∷ [] ≡ places_in x l
  apart h = rw (places_two x l (rw (← first, ← second) h), ← first, ← second)
