-- The places of a key are buckets of its levels in use, and all of those lie in the table.
-- Assumes nothing.
use Prim.Native.Nat.{ℕ, ◌+◌, ◌-◌, ◌*◌, ◌%◌, ◌≤◌, ◌<◌}
use mathlib.Core.Path.{◌≡◌, refl}
use mathlib.Core.Bool.{Bool, true, false, cond}
use mathlib.Core.List.Memᴰ
use mathlib.Core.List.{[], ◌∷◌, Memᴰ as In}
use mathlib.Core.Logic.{⊎_elim}
use native.Mathlib.Nat.{mod-lt}
use native.Mathlib.Omega.{arith}
use lib.Pow.{pow_pos}
use Rattle.rules.specs.Words.{GoodHeader, size_of, levels_in_use, place_at}
use Rattle.rules.specs.Places.{first_place, second_place, same_place, places_in, probes}
use Rattle.rules.specs.declared.Header.{Header}
use Rattle.rules.specs.declared.Level.{Level}
use Rattle.rules.specs.declared.Hashes.{Hashes}
use Rattle.rules.specs.declared.Place.{Place}
use Rattle.rules.proofs.Basics.Lists.{flat_map_in}
use Rattle.rules.proofs.Words.Headers.{bucket-fits}
use Rattle.rules.proofs.Words.Levels.{exponent-fits}

-- a place of a level, by its name and range
pub place_in_level : (x : Hashes) (l : Level) (p : Place) → In p (places_in x l)
    → (p.level ≡ l.name) × (size_of l - 1 ≤ p.bucket) × (p.bucket + 1 < 2 * size_of l)
unfolding places_in first_place second_place place_at
place_in_level x l p i =
    ⊎_elim (λ (q : p ≡ first_place x l). at x.first q) (λ j. other (same_place (first_place x l) (second_place x l)) j) (Memᴰ.cases_cons i)
  where
    at : (hash : ℕ) → p ≡ place_at l (size_of l - 1 + hash % size_of l) → (p.level ≡ l.name) × (size_of l - 1 ≤ p.bucket) × (p.bucket + 1 < 2 * size_of l)
    at hash q = rw q (refl, omega (arith, mod-lt hash (pow_pos l.exponent)), omega (arith, mod-lt hash (pow_pos l.exponent)))

    other : (b : Bool) → In p (cond b [] (second_place x l ∷ [])) → (p.level ≡ l.name) × (size_of l - 1 ≤ p.bucket) × (p.bucket + 1 < 2 * size_of l)
    other true j = absurd (Memᴰ.not-nil j)
    other false j = ⊎_elim (λ (q : p ≡ second_place x l). at x.second q) (λ (j : In p []). absurd (Memᴰ.not-nil j)) (Memᴰ.cases_cons j)

pub places_within : (size : ℕ) (h : Header) → GoodHeader size h → (x : Hashes) (p : Place) → In p (probes h.state x) → 9 + 13 * p.bucket + 13 ≤ size
unfolding probes
places_within size h g x p i =
    let r = flat_map_in (places_in x) (levels_in_use h.state) p i in
    let q = place_in_level x r.0 p r.2 in
    bucket-fits size h g r.0.exponent p.bucket (exponent-fits h.c h.state g.state r.0 r.1) q.2
