-- "A query looks at no more than four buckets, six while growing": the distinct probed buckets are so few.
-- Assumes nothing.
use Prim.Native.Nat.{◌≤◌}
use mathlib.Core.Path.{◌≡◌, refl}
use mathlib.Core.Bool.{Bool, true, false, cond}
use mathlib.Core.List.{[], ◌∷◌}
use native.Mathlib.Omega.{arith}
use lib.ListN.{length, length-append}
use Rattle.rules.specs.Words.{at_rest, top_of, bottom_of, interim_of}
use Rattle.rules.specs.Places.{first_place, second_place, same_place, places_in, probes}
use Rattle.rules.specs.declared.State.{State}
use Rattle.rules.specs.declared.Level.{Level}
use Rattle.rules.specs.declared.Hashes.{Hashes}
use Rattle.rules.proofs.Places.Probing.{probes_at_rest, probes-resizing}

module _ (x : Hashes) where
  two_in_level : (l : Level) → length (places_in x l) ≤ 2
  unfolding places_in
  two_in_level l = go (same_place (first_place x l) (second_place x l))
    where
      go : (b : Bool) → length (first_place x l ∷ cond b [] (second_place x l ∷ [])) ≤ 2
      go true = omega arith
      go false = omega arith

  pub four_at_rest : (s : State) → at_rest s ≡ true → length (probes s x) ≤ 4
  four_at_rest s e = rw (probes_at_rest x s e, length-append) (omega (arith, two_in_level (top_of s), two_in_level (bottom_of s)))

  pub six_at_most : (s : State) → length (probes s x) ≤ 6
  six_at_most s = go (at_rest s) refl
    where
      go : (b : Bool) → at_rest s ≡ b → length (probes s x) ≤ 6
      go true e = omega (arith, four_at_rest s e)
      go false e =
          rw (probes-resizing x s e, length-append, length-append)
          (omega (arith, two_in_level (top_of s), two_in_level (bottom_of s), two_in_level (interim_of s)))
