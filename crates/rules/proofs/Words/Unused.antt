-- "levels not in use": a bucket of the table lies in exactly one range 2^e − 1 to 2^(e+1) − 2 with e at most c, so the buckets
-- that are listed for the exponents no level in use has are those that lie in no level in use.
-- Assumes nothing.
use Prim.Native.Nat.{ℕ, zero, suc, ◌+◌, ◌-◌, ◌^◌, ◌≤◌, ◌<◌}
use mathlib.Core.Path.{◌≡◌, refl}
use mathlib.Core.Bool.{Bool, true, false, not}
use mathlib.Core.List.{List, Memᴰ as In}
use native.Mathlib.Omega.{arith}
use native.Mathlib.Decide.{dec_le}
use lib.Dec.{eqb}
use lib.Pow.{pow_pos, pow_mono, pow-add}
use borrow.Author.Tests.{not-true}
use Rattle.rules.specs.Choice.{select, from}
use Rattle.rules.specs.Words.{levels_in_use, InLevel, buckets_of, exponent_in_use, unused_buckets}
use Rattle.rules.specs.declared.State.{State}
use Rattle.rules.specs.declared.Header.{Header}
use Rattle.rules.specs.declared.Level.{Level}
use Rattle.rules.proofs.Basics.Lists.{never, select_in, in_select, flat_map_in, in_flat_map, from_in, in_from}
use Rattle.rules.proofs.Basics.Tests.{Tells, tells_eq, tells-any}
use Rattle.rules.proofs.Words.Levels.{Ranged, ranges_apart}

bucket_ranged : (c j : ℕ) → j < 2 ^ (c + 1) - 1 → (e : ℕ) × (e < c + 1) × Ranged e j
bucket_ranged zero j h = (0, omega arith, omega arith)
bucket_ranged (suc c) j h = go (dec_le (2 ^ suc c - 1) j) (bucket_ranged c j)
  where
    go : Dec (2 ^ suc c - 1 ≤ j) → (j < 2 ^ (c + 1) - 1 → (e : ℕ) × (e < c + 1) × Ranged e j) → (e : ℕ) × (e < suc c + 1) × Ranged e j
    go (yes l) k = (suc c, omega arith, (l, omega (arith, pow-add 2 (suc c) 1)))
    go (no l) k = let r = k (omega (arith, pow-add 2 c 1)) in (r.0, omega (arith, r.1), r.2)

-- and a range with e at most c lies in the table
pub ranged_bucket : (c e j : ℕ) → e < c + 1 → Ranged e j → j < 2 ^ (c + 1) - 1
ranged_bucket c e j l r = omega (arith, pow_pos e, pow_mono {i = suc e} {j = c + 1} l)

pub exponent-tells : (s : State) (e : ℕ) → Tells (exponent_in_use s e) ((l : Level) × In l (levels_in_use s) × (l.exponent ≡ e))
unfolding exponent_in_use
exponent-tells s e = tells-any (λ (l : Level). eqb l.exponent e) _ (λ l. tells_eq _ _) (levels_in_use s)

-- in no level in use
abbrev pub InNoLevel : State → ℕ → Type 0
InNoLevel s j = (l : Level) → In l (levels_in_use s) → InLevel l j → ⊥

-- a bucket in the range of an exponent lies in a level in use exactly when a level in use has that exponent
module _ (s : State) (e j : ℕ) (r : Ranged e j) where
  pub unused-exponent : exponent_in_use s e ≡ false → InNoLevel s j
  unused-exponent q l i a = never ((exponent-tells s e).1 (l, i, ranges_apart l.exponent e j a r)) q

  exponent-unused : InNoLevel s j → exponent_in_use s e ≡ false
  exponent-unused n = go (exponent_in_use s e) refl
    where
      go : (b : Bool) → exponent_in_use s e ≡ b → b ≡ false
      go true q = let l = (exponent-tells s e).0 q in absurd (n l.0 l.1 (rw l.2 r))
      go false q = refl

module _ (h : Header) where
  unused : ℕ → Bool
  unused e = not (exponent_in_use h.state e)

  buckets_at : ℕ → List ℕ
  buckets_at e = buckets_of (2 ^ e)

  pub unused-bucket : (j : ℕ) → In j (unused_buckets h) → (j < 2 ^ (h.c + 1) - 1) × InNoLevel h.state j
  unfolding unused_buckets buckets_of unused buckets_at
  unused-bucket j i =
      let r = flat_map_in buckets_at (select unused (from 0 (h.c + 1))) j i in
      let q = select_in unused (from 0 (h.c + 1)) r.0 r.1 in
      let e = r.0 in
      let range : Ranged e j = omega (arith, from_in (2 ^ e - 1) (2 ^ e) j r.2, pow_pos e) in
      (ranged_bucket h.c e j (omega (arith, (from_in 0 (h.c + 1) e q.0).1)) range, unused-exponent h.state e j range (not-true _ q.1))

  pub bucket-unused : (j : ℕ) → j < 2 ^ (h.c + 1) - 1 → InNoLevel h.state j → In j (unused_buckets h)
  unfolding unused_buckets buckets_of unused buckets_at
  bucket-unused j b n =
      let r = bucket_ranged h.c j b in
      in_flat_map buckets_at (in_select unused (in_from 0 (h.c + 1) r.0 (omega arith) (omega (arith, r.1)))
      (rw (exponent-unused h.state r.0 j r.2 n)))
      (in_from (2 ^ r.0 - 1) (2 ^ r.0) j r.2.0 (omega (arith, r.2, pow_pos r.0)))
