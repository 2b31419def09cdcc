-- The lowest of the slots 0 to 3 that passes a test, as a number: 4 where none does.
-- Assumes nothing.
use Prim.Native.Nat.{ℕ, ◌≤◌, ◌<◌}
use mathlib.Core.Path.{◌≡◌, refl}
use mathlib.Core.Bool.{Bool}
use mathlib.Core.Option.{Option, none, some, get_or}
use native.Mathlib.Omega.{arith}
use Rattle.rules.specs.Choice.{given, first_of}
use Rattle.rules.specs.Words.{slots, lowest}
use Rattle.rules.proofs.Basics.Lists.{first_of-some, given-some, from_in}

module _ (p : ℕ → Bool) where
  abbrev pub passing : ℕ → Option ℕ
  passing s = given (p s) s

  -- the first that passes is one of them
  found_below : (s : ℕ) → first_of passing slots ≡ some s → s < 4
  found_below s f =
      let k = first_of-some passing slots s f in
      omega (arith, from_in 0 4 k.found k.inside, (given-some (p k.found) k.found s k.gives).1)

  -- what the number n means: a slot where it is below 4
  module _ (n : ℕ) where
    pub lowest-some : n ≡ lowest p → n < 4 → first_of passing slots ≡ some n
    lowest-some e l = go (first_of passing slots) e
      where
        go : (o : Option ℕ) → n ≡ get_or o 4 → o ≡ some n
        go (some s) q = rw q
        go none q = absurd (omega arith)

    -- or 4
    pub lowest_low : n ≡ lowest p → n ≤ 4
    lowest_low e = go (first_of passing slots) refl e
      where
        go : (o : Option ℕ) → first_of passing slots ≡ o → n ≡ get_or o 4 → n ≤ 4
        go none f q = omega arith
        go (some s) f q = omega (arith, found_below s f, q)

    pub lowest-none : n ≡ lowest p → 4 ≤ n → first_of passing slots ≡ none
    lowest-none e l = go (first_of passing slots) refl e
      where
        go : (o : Option ℕ) → first_of passing slots ≡ o → n ≡ get_or o 4 → o ≡ none
        go none f q = refl
        go (some s) f q = absurd (omega (arith, found_below s f, q))
