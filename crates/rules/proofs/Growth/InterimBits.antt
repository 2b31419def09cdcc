-- How many interim slots are taken, by the token words of the interim level's buckets: no call that leaves the state adds one, and an
-- accepted step takes one away. On every table with a good header, sound or not.
-- Assumes nothing.
use Prim.Native.Nat.{ℕ, zero, suc, ◌+◌, ◌*◌, ◌≤◌, ◌<◌}
use mathlib.Core.Path.{◌≡◌, refl}
use mathlib.Core.Bool.{Bool, true, false}
use mathlib.Core.List.Memᴰ
use mathlib.Core.List.Memᴰ.{head as here}
use mathlib.Core.List.Memᴰ.{tail as there}
use mathlib.Core.List.{List, [], ◌∷◌, Memᴰ as In}
use mathlib.Core.Logic.{◌⊎◌, inl, inr}
use native.Mathlib.Omega.{arith}
use Rattle.rules.specs.Choice.{from}
use Rattle.rules.specs.Words.{slots, is_taken, show, hide, taken_of}
use Rattle.rules.specs.declared.Header.{Header}
use Rattle.rules.proofs.Basics.Lists.{one, select_most}
use Rattle.rules.proofs.Words.FreeSlots.{taken_sum}
use Rattle.rules.proofs.Words.Tokens.{Bit, show-bit, hide-bit}

-- ---- sums over buckets

abbrev pub total : (ℕ → ℕ) → List ℕ → ℕ
total f [] = 0
total f (j ∷ js) = f j + total f js

module _ (f g : ℕ → ℕ) where
  pub total_least : (l : List ℕ) → ((j : ℕ) → In j l → f j ≤ g j) → total f l ≤ total g l
  total_least [] h = omega arith
  total_least (j ∷ js) h = omega (arith, h j (here refl), total_least js (λ i k. h i (there k)))

  pub total_less : (l : List ℕ) → ((j : ℕ) → In j l → f j ≤ g j) → (i : ℕ) → In i l → f i + 1 ≤ g i → total f l + 1 ≤ total g l
  total_less [] h i k s = absurd (Memᴰ.not-nil k)
  total_less (j ∷ js) h i k s = go (Memᴰ.cases_cons k) (total_less js (λ a b. h a (there b)) i)
    where
      go : (i ≡ j) ⊎ In i js → (In i js → f i + 1 ≤ g i → total f js + 1 ≤ total g js) → total f (j ∷ js) + 1 ≤ total g (j ∷ js)
      go (inl e) r = omega (arith, total_least js (λ a b. h a (there b)), (rw e at s))
      go (inr m) r = omega (arith, h j (here refl), r m s)

pub total_most : (f : ℕ → ℕ) (most : ℕ) → ((j : ℕ) → f j ≤ most) → (a n : ℕ) → total f (from a n) ≤ most * n
total_most f most h a zero = omega arith
total_most f most h a (suc n) = omega (arith, h a, total_most f most h (suc a) n)

-- ---- the taken slots of a token word

pub taken_most : (h : Header) (w : ℕ) → taken_of h w ≤ 4
unfolding taken_of
taken_most h w = select_most (is_taken h w) slots

-- a word with one bit changed counts that bit otherwise, and the rest alike
module _ (h : Header) (w v : ℕ) (b : Bool) where
  taken_changed : (s : ℕ) → s < 4 → Bit h w v s b → taken_of h v + one (is_taken h w s) ≡ taken_of h w + one b
  taken_changed zero l bit =
      rw (
        taken_sum h v,
        taken_sum h w,
        bit.here,
        bit.other 1 (omega arith) (λ e. omega arith),
        bit.other 2 (omega arith) (λ e. omega arith),
        bit.other 3 (omega arith) (λ e. omega arith),
      ) (omega arith)
  taken_changed (suc zero) l bit =
      rw (
        taken_sum h v,
        taken_sum h w,
        bit.here,
        bit.other 0 (omega arith) (λ e. omega arith),
        bit.other 2 (omega arith) (λ e. omega arith),
        bit.other 3 (omega arith) (λ e. omega arith),
      ) (omega arith)
  taken_changed (suc (suc zero)) l bit =
      rw (
        taken_sum h v,
        taken_sum h w,
        bit.here,
        bit.other 0 (omega arith) (λ e. omega arith),
        bit.other 1 (omega arith) (λ e. omega arith),
        bit.other 3 (omega arith) (λ e. omega arith),
      ) (omega arith)
  taken_changed (suc (suc (suc zero))) l bit =
      rw (
        taken_sum h v,
        taken_sum h w,
        bit.here,
        bit.other 0 (omega arith) (λ e. omega arith),
        bit.other 1 (omega arith) (λ e. omega arith),
        bit.other 2 (omega arith) (λ e. omega arith),
      ) (omega arith)
  taken_changed (suc (suc (suc (suc s)))) l bit = absurd (omega arith)

module _ (h : Header) (w s : ℕ) (low : s < 4) where
  pub hide-fewer : taken_of h (hide h w s) ≤ taken_of h w
  hide-fewer = omega (arith, taken_changed h w (hide h w s) false s low (hide-bit h w s low))

  pub hide_less : is_taken h w s ≡ true → taken_of h (hide h w s) + 1 ≤ taken_of h w
  hide_less e = omega (arith, (rw e at (taken_changed h w (hide h w s) false s low (hide-bit h w s low))))

  -- one set and one cleared
  pub beside_fewer : is_taken h w s ≡ true → (z key : ℕ) → z < 4 → taken_of h (show h (hide h w s) z key) ≤ taken_of h w
  beside_fewer e z key l = omega (arith, hide_less e, taken_changed h (hide h w s) (show h (hide h w s) z key) true z l (show-bit h (hide h w s) z key l))
