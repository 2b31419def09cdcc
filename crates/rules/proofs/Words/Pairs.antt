-- The pairs of a list of words: "word index, new word". The i-th pair, from 0, is words 2i and 2i + 1.
-- Assumes nothing.
use Prim.Native.Nat.{ℕ, zero, suc, ◌+◌, ◌*◌, ◌≤◌, ◌<◌}
use mathlib.Core.Path.{◌≡◌, refl, sym, ap, ◌∙◌}
use mathlib.Core.List.Memᴰ
use mathlib.Core.List.Memᴰ.{head as here}
use mathlib.Core.List.Memᴰ.{tail as there}
use mathlib.Core.List.{List, [], ◌∷◌, ◌++◌, Memᴰ as In}
use mathlib.Core.Logic.{⊎_elim}
use native.Mathlib.Omega.{arith}
use lib.ListN.{length}
use Rattle.rules.specs.Words.{word}
use Rattle.rules.specs.Stores.{Store, pairs}
use Rattle.rules.specs.Demands.{StandsIn}

same_head : {A : Type 0} {a b : A} {xs ys : List A} → ◌≡◌ {A = List A} (a ∷ xs) (b ∷ ys) → (a ≡ b) × (xs ≡ ys)
same_head e = (cc, cc)

none-split : {A B : Type 0} (before behind : List A) (x : A) → ◌≡◌ {A = List A} [] (before ++ (x ∷ behind)) → B
none-split [] behind x e = absurd (let z : ◌≡◌ {A = ℕ} 0 1 = cc in omega arith)
none-split (b ∷ before) behind x e = absurd (let z : ◌≡◌ {A = ℕ} 0 1 = cc in omega arith)

-- two words further
twice : (l : List ℕ) (i w n : ℕ) → word (i ∷ (w ∷ l)) (2 * suc n) ≡ word l (2 * n)
twice l i w n = let e : 2 * suc n ≡ suc (suc (2 * n)) = omega arith in rw e

twice-one : (l : List ℕ) (i w n : ℕ) → word (i ∷ (w ∷ l)) (2 * suc n + 1) ≡ word l (2 * n + 1)
twice-one l i w n = let e : 2 * suc n + 1 ≡ suc (suc (2 * n + 1)) = omega arith in rw e

pub pairs-number : (n : ℕ) (l : List ℕ) → 2 * n ≤ length l → length (pairs n l) ≡ n
pairs-number zero l h = refl
pairs-number (suc n) [] h = absurd (omega arith)
pairs-number (suc n) (i ∷ []) h = absurd (omega arith)
pairs-number (suc n) (i ∷ (w ∷ l)) h = omega (arith, pairs-number n l (omega arith))

pub pairs-stand : (n : ℕ) (l : List ℕ) → StandsIn (pairs n l) l
pairs-stand zero l before behind x e = none-split before behind x e
pairs-stand (suc n) [] before behind x e = none-split before behind x e
pairs-stand (suc n) (i ∷ []) before behind x e = none-split before behind x e
pairs-stand (suc n) (i ∷ (w ∷ l)) [] behind x e =
    let k : (i, w) ≡ x = (same_head e).0 in
    (ap (λ (z : Store). z.0) k, ap (λ (z : Store). z.1) k)
pairs-stand (suc n) (i ∷ (w ∷ l)) (b ∷ before) behind x e =
    let r = pairs-stand n l before behind x (same_head e).1 in
    (twice l i w (length before) ∙ r.0, twice-one l i w (length before) ∙ r.1)

-- a pair is in the list exactly where its words are
pub in_pairs : (n : ℕ) (l : List ℕ) → 2 * n ≤ length l → (i : ℕ) → i < n → In {A = Store} (word l (2 * i), word l (2 * i + 1)) (pairs n l)
in_pairs zero l h i k = absurd (omega arith)
in_pairs (suc n) [] h i k = absurd (omega arith)
in_pairs (suc n) (a ∷ []) h i k = absurd (omega arith)
in_pairs (suc n) (a ∷ (w ∷ l)) h zero k = here refl
in_pairs (suc n) (a ∷ (w ∷ l)) h (suc i) k =
    let inside : In {A = Store} (word (a ∷ (w ∷ l)) (2 * suc i), word (a ∷ (w ∷ l)) (2 * suc i + 1)) (pairs n l) =
    rw (twice l a w i, twice-one l a w i) (in_pairs n l (omega arith) i (omega arith)) in
    there inside

pub pairs_in : (n : ℕ) (l : List ℕ) (x : Store) → In x (pairs n l) → (i : ℕ) × (i < n) × (x.0 ≡ word l (2 * i))
pairs_in zero l x k = absurd (Memᴰ.not-nil k)
pairs_in (suc n) [] x k = absurd (Memᴰ.not-nil k)
pairs_in (suc n) (a ∷ []) x k = absurd (Memᴰ.not-nil k)
pairs_in (suc n) (a ∷ (w ∷ l)) x k =
    ⊎_elim (λ (e : x ≡ (a, w)). (0, omega arith, ap (λ (z : Store). z.0) e))
    (λ (j : In x (pairs n l)). let r = pairs_in n l x j in (suc r.0, omega (arith, r.1), r.2 ∙ sym (twice l a w r.0))) (Memᴰ.cases_cons k)
