-- make: "14 | n pairs are not in the list, or an index among them is outside the table", and exactly then; else it makes the
-- stores, in order.
-- Assumes nothing.
use Prim.Native.Nat.{ℕ, ◌*◌, ◌≤◌, ◌<◌}
use mathlib.Core.Path.{◌≡◌, refl}
use mathlib.Core.Bool.{Bool, true, false, cond}
use mathlib.Core.List.{List, [], ◌∷◌, map}
use mathlib.Core.Logic.{◌⊎◌, inl, inr, ⊎_elim}
use native.Mathlib.Omega.{arith}
use lib.ListN.{length}
use lib.Dec.{leb, ltb}
use borrow.Author.Tests.{leb-false, ltb-false}
use Rattle.rules.specs.Choice.{all}
use Rattle.rules.specs.Words.{Table, word}
use Rattle.rules.specs.Stores.{Store, pairs, made}
use Rattle.rules.specs.Answers.{verdict_means}
use Rattle.rules.specs.Results.{make_tests, make_result}
use Rattle.rules.specs.Demands.{Outside, MakeAnswers, MakesFirst}
use Rattle.rules.specs.declared.Refusal.TheVariants.{BadMaking}
use Rattle.rules.specs.Answers.{Verdict}
use Rattle.std.specs.Prelude.{Ok, Err}
use Rattle.rules.proofs.Basics.Lists.{never}
use Rattle.rules.proofs.Words.Pairs.{pairs-number, pairs-stand, in_pairs, pairs_in}
use Rattle.rules.proofs.Basics.Tests.{tells_le, tells_lt, tells_all, all_yes, all_fails}

module _ (t : Table) (l : List ℕ) (n : ℕ) where
  within : Store → Bool
  within x = ltb x.0 (length t)

  not_outside : all (make_tests t l n) ≡ true → Outside t l n → ⊥
  unfolding make_tests within
  not_outside e o =
      let y = all_yes (make_tests t l n) e in
      let room = (tells_le (2 * n) (length l)).0 (y 0) in
      let inside = (tells_all within _ (λ x. tells_lt x.0 (length t)) (pairs n l)).0 (y 1) in
      ⊎_elim (λ (h : length l < 2 * n). omega arith)
      (λ (h : (i : ℕ) × (i < n) × (length t ≤ word l (2 * i))). omega (arith, inside _ (in_pairs n l room h.0 h.1), h.2)) o

  outside : all (make_tests t l n) ≡ false → Outside t l n
  unfolding make_tests within
  outside e = go (leb (2 * n) (length l)) (all (map within (pairs n l))) refl refl e
    where
      go : (a b : Bool) → leb (2 * n) (length l) ≡ a → all (map within (pairs n l)) ≡ b → all (a ∷ b ∷ []) ≡ false → Outside t l n
      go false b p q e = inl (leb-false _ _ p)
      go true false p q e =
          let r = all_fails within (pairs n l) q in
          let i = pairs_in n l r.0 r.1 in
          inr (i.0, i.1, omega (arith, ltb-false r.0.0 (length t) r.2, i.2))
      go true true p q e = never refl e

  -- where nothing is outside, the first n pairs are made
  pub make_passes : (Outside t l n → ⊥) → make_result t l n ≡ (Ok tt, made t (pairs n l))
  unfolding make_result
  make_passes inside = go (all (make_tests t l n)) refl
    where
      go : (b : Bool) → all (make_tests t l n) ≡ b
          → ◌≡◌ {A = Verdict × Table} (cond b (Ok tt, made t (pairs n l)) (Err BadMaking, t)) (Ok tt, made t (pairs n l))
      go true e = refl
      go false e = absurd (inside (outside e))

-- the verdict and the table at exit
abbrev MadeBy : Table → List ℕ → ℕ → Verdict × Table → Type 0
MadeBy t l n r =
    (Outside t l n × (verdict_means r.0 ≡ record { number = 14; values = [] }) × (r.1 ≡ t))
    ⊎ ((Outside t l n → ⊥) × (verdict_means r.0 ≡ record { number = 0; values = [] }) × MakesFirst t l n r.1)

pub make_answers : MakeAnswers
unfolding make_result make_tests
make_answers t l n = go (all (make_tests t l n)) refl
  where
    go : (b : Bool) → all (make_tests t l n) ≡ b → MadeBy t l n (cond b (Ok tt, made t (pairs n l)) (Err BadMaking, t))
    go true e =
        let room = (tells_le (2 * n) (length l)).0 (all_yes (make_tests t l n) e 0) in
        inr (not_outside t l n e, refl, record { stores = pairs n l; number = pairs-number n l room; list = pairs-stand n l; result = refl })
    go false e = inl (outside t l n e, refl, refl)
