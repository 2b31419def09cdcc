-- What is left after stores are made: the words that none of them names stay, and a word holds what the last store that names it
-- gave it.
-- Assumes nothing.
use Prim.Native.Nat.{ℕ, ◌<◌}
use mathlib.Core.Path.{◌≡◌, refl, ◌∙◌}
use mathlib.Core.List.Memᴰ
use mathlib.Core.List.{List, [], ◌∷◌, ◌++◌, Memᴰ as In}
use mathlib.Core.Logic.{◌⊎◌, inl, inr, ⊎_elim}
use lib.ListN.{length, set, length-set}
use lib.Seq.{get_or-set_same, get_or-set_other}
use Rattle.rules.specs.Words.{Table, word}
use Rattle.rules.specs.Stores.{Store, made}

pub made_append : (t : Table) (xs ys : List Store) → made t (xs ++ ys) ≡ made (made t xs) ys
made_append t [] ys = refl
made_append t (x ∷ xs) ys = made_append (set t x.0 x.1) xs ys

pub made-long : (t : Table) (xs : List Store) → length (made t xs) ≡ length t
made-long t [] = refl
made-long t (x ∷ xs) = made-long (set t x.0 x.1) xs ∙ length-set t x.0 x.1

-- of each store of a list
abbrev pub Each : (Store → Type 0) → List Store → Type 0
Each P [] = Unit {0}
Each P (x ∷ xs) = P x × Each P xs

module _ (P : Store → Type 0) where
  pub each_in : (xs : List Store) → Each P xs → (x : Store) → In x xs → P x
  each_in [] a x i = absurd (Memᴰ.not-nil i)
  each_in (y ∷ ys) a x i = ⊎_elim (λ (h : x ≡ y). rw h a.0) (λ (h : In x ys). each_in ys a.1 x h) (Memᴰ.cases_cons i)

  pub each_append : (xs ys : List Store) → Each P xs → Each P ys → Each P (xs ++ ys)
  each_append [] ys a b = b
  each_append (x ∷ xs) ys a b = (a.0, each_append xs ys a.1 b)

-- none of them stores to word i
abbrev pub Misses : ℕ → List Store → Type 0
Misses i = Each (λ (x : Store). i ≡ x.0 → ⊥)

pub made_kept : (t : Table) (xs : List Store) (i : ℕ) → Misses i xs → word (made t xs) i ≡ word t i
made_kept t [] i m = refl
made_kept t (x ∷ xs) i m = made_kept (set t x.0 x.1) xs i m.1 ∙ get_or-set_other t x.0 i x.1 0 m.0

-- the last of them that stores to word i stores v
abbrev Leaves : ℕ → ℕ → List Store → Type 0
Leaves i v [] = ⊥
Leaves i v (x ∷ xs) = ((x.0 ≡ i) × (x.1 ≡ v) × Misses i xs) ⊎ Leaves i v xs

pub made_left : (t : Table) (xs : List Store) (i v : ℕ) → i < length t → Leaves i v xs → word (made t xs) i ≡ v
made_left t [] i v l h = absurd h
made_left t (x ∷ xs) i v l (inl (e, f, m)) =
    let here : word (set t x.0 x.1) i ≡ v = rw (← e) (get_or-set_same t x.0 x.1 0 (rw e l) ∙ f) in
    made_kept (set t x.0 x.1) xs i m ∙ here
made_left t (x ∷ xs) i v l (inr h) = made_left (set t x.0 x.1) xs i v (rw (length-set t x.0 x.1) l) h
