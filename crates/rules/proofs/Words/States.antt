-- Good states: "At rest 1 ≤ k ≤ c, while growing 2 ≤ k ≤ c. Other states are bad." "States with phase 2 need 1 ≤ k < c." The test and the
-- fact are one, and a good state has room for its levels. But for the words of the header, the laws take a good state apart by its phase here
-- alone.
-- Assumes nothing.
use Prim.Native.Nat.{ℕ, ◌+◌, ◌-◌, ◌≤◌, ◌<◌}
use mathlib.Core.Path.{◌≡◌, refl, sym, ap, ◌∙◌}
use mathlib.Core.Bool.{Bool, true, false, ◌&&◌, and-true, and-false, or-false}
use mathlib.Core.List.{List, [], ◌∷◌}
use mathlib.Core.Logic.{◌⊎◌, inl, inr, ⊎_elim}
use native.Mathlib.Omega.{arith}
use borrow.Author.Tests.{leb-true, lt-leb, le-leb, ltb-true, lt-ltb, le-ltb, eqb-true, eqb-false, eq-eqb, ne_eqb}
use lib.Dec.{eqb, leb, ltb}
use Rattle.rules.specs.Choice.{all, any}
use Rattle.rules.specs.Words.{state_good, GoodState, at_rest, shrinking, interim_of}
use Rattle.rules.specs.declared.State.{State}
use Rattle.rules.proofs.Basics.Lists.{never}
use Rattle.rules.proofs.Basics.Tests.{all_yes}

-- one of three
among : (a b c : Bool) → any (a ∷ b ∷ c ∷ []) ≡ true → (a ≡ true) ⊎ ((b ≡ true) ⊎ (c ≡ true))
among true b c e = inl refl
among false true c e = inr (inl refl)
among false false true e = inr (inr refl)
among false false false e = never e refl

pub good-state : (c : ℕ) (s : State) → state_good c s ≡ true → GoodState c s
unfolding state_good
good-state c s e =
    ⊎_elim (λ p. inl (rest p)) (⊎_elim (λ p. inr (inl (growing p))) (λ p. inr (inr (shrinks p)))) (among (all rests) (all grows) (all falls) e)
  where
    rests : List Bool
    rests = eqb s.phase 0 ∷ leb 1 s.k ∷ leb s.k c ∷ []

    grows : List Bool
    grows = eqb s.phase 1 ∷ leb 2 s.k ∷ leb s.k c ∷ []

    falls : List Bool
    falls = eqb s.phase 2 ∷ leb 1 s.k ∷ ltb s.k c ∷ []

    rest : all rests ≡ true → (s.phase ≡ 0) × (1 ≤ s.k) × (s.k ≤ c)
    rest p = let y = all_yes rests p in (eqb-true _ _ (y 0), leb-true _ _ (y 1), leb-true _ _ (y 2))

    growing : all grows ≡ true → (s.phase ≡ 1) × (2 ≤ s.k) × (s.k ≤ c)
    growing p = let y = all_yes grows p in (eqb-true _ _ (y 0), leb-true _ _ (y 1), leb-true _ _ (y 2))

    shrinks : all falls ≡ true → (s.phase ≡ 2) × (1 ≤ s.k) × (s.k < c)
    shrinks p = let y = all_yes falls p in (eqb-true _ _ (y 0), leb-true _ _ (y 1), ltb-true _ _ (y 2))

-- ---- what a good state says: k is 1 to c, and the interim level's exponent is a third one, at most c

pub state-fits : (c : ℕ) (s : State) → GoodState c s → (1 ≤ s.k) × (s.k ≤ c)
state-fits c s (inl (p, l, m)) = (l, m)
state-fits c s (inr (inl (p, l, m))) = omega arith
state-fits c s (inr (inr (p, l, m))) = omega arith

-- the exponent of the interim level, by phase
pub grown-interim : (s : State) → s.phase ≡ 1 → (interim_of s).exponent ≡ s.k - 2
unfolding interim_of shrinking
grown-interim s p = rw (ne_eqb s.phase 2 (λ q. omega arith))

pub shrunk-interim : (s : State) → s.phase ≡ 2 → (interim_of s).exponent ≡ s.k + 1
unfolding interim_of shrinking
shrunk-interim s p = rw (eq-eqb s.phase 2 p)

pub interim-fits : (c : ℕ) (s : State) → GoodState c s → at_rest s ≡ false
    → ((interim_of s).exponent ≤ c) × ((interim_of s).exponent ≡ s.k → ⊥) × ((interim_of s).exponent ≡ s.k - 1 → ⊥)
unfolding at_rest
interim-fits c s (inl (p, l, m)) q = absurd (eqb-false _ _ q p)
interim-fits c s (inr (inl (p, l, m))) q = rw (grown-interim s p) (omega arith, λ e. omega arith, λ e. omega arith)
interim-fits c s (inr (inr (p, l, m))) q = rw (shrunk-interim s p) (omega arith, λ e. omega arith, λ e. omega arith)

-- a good state that is not at rest grows or shrinks
abbrev pub GrowsOrShrinks : ℕ → State → Type 0
GrowsOrShrinks c s = ((s.phase ≡ 1) × (2 ≤ s.k) × (s.k ≤ c)) ⊎ ((s.phase ≡ 2) × (1 ≤ s.k) × (s.k < c))

pub resizing_phases : (c : ℕ) (s : State) → GoodState c s → at_rest s ≡ false → GrowsOrShrinks c s
unfolding at_rest
resizing_phases c s (inl (p, l, m)) q = absurd (eqb-false _ _ q p)
resizing_phases c s (inr either) q = either

-- but for the shrinking, a good state that is not at rest has a quarter of the top
pub interim_least : (c : ℕ) (s : State) → GoodState c s → at_rest s ≡ false → shrinking s ≡ false → 2 ≤ s.k
unfolding at_rest shrinking
interim_least c s (inl (p, l, m)) q r = absurd (eqb-false _ _ q p)
interim_least c s (inr (inl (p, l, m))) q r = l
interim_least c s (inr (inr (p, l, m))) q r = absurd (eqb-false _ _ r p)

-- a good state is good for a larger c
pub good_wider : (c d : ℕ) (s : State) → c ≤ d → GoodState c s → GoodState d s
good_wider c d s w (inl (p, l, m)) = inl (p, l, omega arith)
good_wider c d s w (inr (inl (p, l, m))) = inr (inl (p, l, omega arith))
good_wider c d s w (inr (inr (p, l, m))) = inr (inr (p, l, omega arith))

-- ---- and a good state passes its test; the ways through it

pub state_passes : (c : ℕ) (s : State) → GoodState c s → state_good c s ≡ true
unfolding state_good
state_passes c s (inl (p, l, m)) = rw (eq-eqb _ _ p, le-leb 1 s.k l, le-leb _ _ m)
state_passes c s (inr (inl (p, l, m))) = rw (ne_eqb s.phase 0 (λ q. omega arith), eq-eqb _ _ p, le-leb 2 s.k l, le-leb _ _ m)
state_passes c s (inr (inr (p, l, m))) =
    rw (ne_eqb s.phase 0 (λ q. omega arith), ne_eqb s.phase 1 (λ q. omega arith), eq-eqb _ _ p, le-leb 1 s.k l, lt-ltb _ _ m)

module _ (c : ℕ) (s : State) where
  pub state-above : c < s.k → false ≡ state_good c s
  unfolding state_good
  state-above h = simp (lt-leb _ _ h, le-ltb s.k c (omega arith), and-false)

  pub state-other : (s.phase ≡ 0 → ⊥) → (s.phase ≡ 1 → ⊥) → (s.phase ≡ 2 → ⊥) → false ≡ state_good c s
  unfolding state_good
  state-other p q r = rw (ne_eqb _ _ p, ne_eqb _ _ q, ne_eqb _ _ r)

  pub state-rest : s.k ≤ c → s.phase ≡ 0 → leb 1 s.k ≡ state_good c s
  unfolding state_good
  state-rest h p = rw (eq-eqb _ _ p, le-leb _ _ h, ne_eqb s.phase 1 (omega arith), ne_eqb s.phase 2 (omega arith)) (sym (or-false _ ∙ and-true _))

  pub state-growing : s.k ≤ c → s.phase ≡ 1 → leb 2 s.k ≡ state_good c s
  unfolding state_good
  state-growing h p = rw (ne_eqb s.phase 0 (omega arith), eq-eqb _ _ p, le-leb _ _ h, ne_eqb s.phase 2 (omega arith)) (sym (or-false _ ∙ and-true _))

  pub state-shrinking : (b : Bool) → s.phase ≡ 2 → b ≡ leb 1 s.k && ltb s.k c → b ≡ state_good c s
  unfolding state_good
  state-shrinking b p e =
      rw (ne_eqb s.phase 0 (omega arith), ne_eqb s.phase 1 (omega arith), eq-eqb _ _ p)
      (e ∙ sym (or-false _ ∙ ap (λ (a : Bool). leb 1 s.k && a) (and-true _)))
