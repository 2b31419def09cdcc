-- The levels in use, in every good state: each has an exponent of at most c, no two have the same one, and so no two share a bucket.
-- Here alone the laws know that the levels in use are the top, the bottom and, but for at rest, the interim level.
-- Assumes nothing.
use Prim.Native.Nat.{ℕ, zero, suc, ◌+◌, ◌-◌, ◌*◌, ◌^◌, ◌≤◌, ◌<◌}
use mathlib.Core.Path.{◌≡◌, refl, sym, ap}
use mathlib.Core.Bool.{Bool, true, false, cond}
use mathlib.Core.List.Memᴰ
use mathlib.Core.List.Memᴰ.{head as here}
use mathlib.Core.List.Memᴰ.{tail as there}
use mathlib.Core.List.{[], ◌∷◌, Memᴰ as In}
use mathlib.Core.Logic.{◌⊎◌, inl, inr, ⊎_elim}
use native.Mathlib.Omega.{arith}
use native.Mathlib.Decide.{dec_le, ℕ_discrete}
use native.Mathlib.Nat.{sub-zero}
use lib.ListN.{length, get_or, drop}
use lib.Pow.{pow_pos, pow_mono}
use Rattle.rules.specs.Words.{GoodState, at_rest, top, bottom, interim, top_of, bottom_of, interim_of, levels_in_use, InLevel}
use Rattle.rules.specs.declared.State.{State}
use Rattle.rules.specs.declared.Level.{Level}
use Rattle.rules.proofs.Basics.Lists.{Ascending, ascending_compare}
use Rattle.rules.proofs.Basics.Walks.{stands_at_lem}
use Rattle.rules.proofs.Words.States.{state-fits, interim-fits}

-- a level in use is the top, the bottom or, but for at rest, the interim level
abbrev pub OfThree : State → Level → Type 0
OfThree s l = (l ≡ top_of s) ⊎ ((l ≡ bottom_of s) ⊎ ((at_rest s ≡ false) × (l ≡ interim_of s)))

pub level-cases : (s : State) (l : Level) → In l (levels_in_use s) → OfThree s l
unfolding levels_in_use
level-cases s l i = ⊎_elim (λ e. inl e) (λ j. inr (⊎_elim (λ e. inl e) (λ k. inr (last (at_rest s) refl k)) (Memᴰ.cases_cons j))) (Memᴰ.cases_cons i)
  where
    last : (b : Bool) → at_rest s ≡ b → In l (cond b [] (interim_of s ∷ [])) → (at_rest s ≡ false) × (l ≡ interim_of s)
    last true q j = absurd (Memᴰ.not-nil j)
    last false q j = (q, Memᴰ.eq_of_singleton j)

pub top-used : (s : State) → In (top_of s) (levels_in_use s)
unfolding levels_in_use
top-used s = here refl

pub bottom-used : (s : State) → In (bottom_of s) (levels_in_use s)
unfolding levels_in_use
bottom-used s = there (here refl)

pub interim-used : (s : State) → at_rest s ≡ false → In (interim_of s) (levels_in_use s)
unfolding levels_in_use
interim-used s q = rw q (there (there (here refl)))

-- the interim level is known by its name
pub interim-named : (s : State) (l : Level) → In l (levels_in_use s) → l.name ≡ interim → (at_rest s ≡ false) × (l ≡ interim_of s)
unfolding top_of bottom_of
interim-named s l i named = go (level-cases s l i)
  where
    go : OfThree s l → (at_rest s ≡ false) × (l ≡ interim_of s)
    go (inl e) = absurd (let z : l.name ≡ top = ap (λ (m : Level). m.name) e in omega arith)
    go (inr (inl e)) = absurd (let z : l.name ≡ bottom = ap (λ (m : Level). m.name) e in omega arith)
    go (inr (inr e)) = e

-- two levels of different exponents
abbrev pub Differ : Level → Level → Type 0
Differ l m = l.exponent ≡ m.exponent → ⊥

module _ (c : ℕ) (s : State) (good : GoodState c s) where
  -- every exponent is at most c
  pub exponent-fits : (l : Level) → In l (levels_in_use s) → l.exponent ≤ c
  unfolding top_of bottom_of interim_of
  exponent-fits l i = go (level-cases s l i)
    where
      go : OfThree s l → l.exponent ≤ c
      go (inl e) = rw e (state-fits c s good).1
      go (inr (inl e)) = rw e (omega (arith, state-fits c s good))
      go (inr (inr e)) = rw e.1 (interim-fits c s good e.0).0

  -- and two of them differ
  pub exponents_differ : Ascending Differ (levels_in_use s)
  unfolding levels_in_use top_of bottom_of interim_of
  exponents_differ = go (at_rest s) refl
    where
      half : s.k ≡ s.k - 1 → ⊥
      half e = omega (arith, state-fits c s good)

      go : (b : Bool) → at_rest s ≡ b → Ascending Differ (top_of s ∷ bottom_of s ∷ cond b [] (interim_of s ∷ []))
      go true q = (λ m i. rw (Memᴰ.eq_of_singleton i) half, (λ m i. absurd (Memᴰ.not-nil i), tt))
      go false q =
          let other = interim-fits c s good q in (
            λ m i. ⊎_elim (λ (e : m ≡ bottom_of s). rw e half)
                (λ (j : In m (interim_of s ∷ [])). rw (Memᴰ.eq_of_singleton j) (λ e. other.1 (sym e))) (Memᴰ.cases_cons i),
            (λ m i. rw (Memᴰ.eq_of_singleton i) (λ e. other.2 (sym e)), (λ m i. absurd (Memᴰ.not-nil i), tt)),
          )

-- the range of a level of 2^e buckets: "buckets M − 1 to 2M − 2"
abbrev pub Ranged : ℕ → ℕ → Type 0
Ranged e j = (2 ^ e - 1 ≤ j) × (j ≤ 2 * 2 ^ e - 2)

-- a bucket lies in one range
pub ranges_apart : (d e j : ℕ) → Ranged d j → Ranged e j → d ≡ e
ranges_apart d e j a b = go (dec_le (suc d) e) (dec_le (suc e) d)
  where
    go : Dec (suc d ≤ e) → Dec (suc e ≤ d) → d ≡ e
    go (yes l) m = absurd (omega (arith, pow_pos d, pow_mono {i = suc d} {j = e} l))
    go (no l) (yes m) = absurd (omega (arith, pow_pos e, pow_mono {i = suc e} {j = d} m))
    go (no l) (no m) = omega arith

-- so two levels in use share no bucket
pub level_of_bucket : (c : ℕ) (s : State) → GoodState c s → (l m : Level) (j : ℕ) → In l (levels_in_use s) → In m (levels_in_use s)
    → InLevel l j → InLevel m j → l ≡ m
level_of_bucket c s good l m j i k a b =
    let same = ranges_apart l.exponent m.exponent j a b in
    ⊎_elim (λ (e : l ≡ m). e) (λ (h : Differ l m ⊎ Differ m l). absurd (⊎_elim (λ (z : Differ l m). z same) (λ (z : Differ m l). z (sym same)) h))
    (ascending_compare Differ (levels_in_use s) (exponents_differ c s good) l m i k)

-- ---- one after the other: the top, the bottom and, but for at rest, the interim level

pub levels_counted : (s : State) → length (levels_in_use s) ≡ cond (at_rest s) 2 3
unfolding levels_in_use
levels_counted s = go (at_rest s)
  where
    go : (b : Bool) → length (top_of s ∷ bottom_of s ∷ cond b [] (interim_of s ∷ [])) ≡ cond b 2 3
    go true = refl
    go false = refl

-- a third level is the interim level
pub third_level : (s : State) → 2 < length (levels_in_use s) → (at_rest s ≡ false) × (drop 2 (levels_in_use s) ≡ interim_of s ∷ drop 3 (levels_in_use s))
unfolding levels_in_use
third_level s l = go (at_rest s) refl (rw (levels_counted s) at l)
  where
    go : (b : Bool) → at_rest s ≡ b → 2 < cond b 2 3
        → (at_rest s ≡ false) × (drop 2 (top_of s ∷ bottom_of s ∷ cond b [] (interim_of s ∷ [])) ≡ interim_of s ∷ drop 3
        (top_of s ∷ bottom_of s ∷ cond b [] (interim_of s ∷ [])))
    go true q l = absurd (omega arith)
    go false q l = (q, refl)

-- the two before it halve
pub earlier-level : (s : State) (n : ℕ) → n < length (levels_in_use s) → (n ≡ 2 → ⊥)
    → (n ≤ 1) × (drop n (levels_in_use s) ≡ record { name = n; exponent = s.k - n } ∷ drop (n + 1) (levels_in_use s))
unfolding levels_in_use top_of bottom_of
earlier-level s zero l other = (omega arith, rw sub-zero)
earlier-level s (suc zero) l other = (omega arith, refl)
earlier-level s (suc (suc n)) l other = absurd (most (at_rest s) (rw (levels_counted s) at l))
  where
    most : (b : Bool) → suc (suc n) < cond b 2 3 → ⊥
    most true l = omega arith
    most false l = other (omega arith)

-- each has its number for a name
pub nth_named : (s : State) (n : ℕ) → n < length (levels_in_use s) → (get_or (levels_in_use s) n (top_of s)).name ≡ n
unfolding interim_of
nth_named s n l = go (ℕ_discrete n 2)
  where
    go : Dec (n ≡ 2) → (get_or (levels_in_use s) n (top_of s)).name ≡ n
    go (yes e) = rw (e, stands_at_lem (top_of s) (levels_in_use s) 2 (third_level s (rw e at l)).1)
    go (no e) = rw (stands_at_lem (top_of s) (levels_in_use s) n (earlier-level s n l e).1)
