-- What a loop along a list has still to do from element i on: a fold, or a test of each element.
-- `Walks` says what stands at i.
-- Assumes nothing.
use Prim.Native.Nat.{ℕ, ◌+◌}
use mathlib.Core.Path.{◌≡◌, refl, sym, ap, ◌∙◌}
use mathlib.Core.Bool.{Bool, true, false, cond, ◌&&◌, ◌||◌}
use mathlib.Core.List.{List, [], ◌∷◌, ◌++◌, map, map-append, flat_map, foldl, foldl-append}
use lib.ListN.{drop}
use Rattle.rules.specs.Choice.{all, any, select}

module _ {A B : Type 0} (f : B → A → B) (b : B) (l : List A) where
  pub fold_from : ℕ → B
  fold_from i = foldl f b (drop i l)

  pub fold_whole : foldl f b l ≡ fold_from 0
  unfolding fold_from
  fold_whole = refl

  pub fold_end : (i : ℕ) → drop i l ≡ [] → fold_from i ≡ b
  unfolding fold_from
  fold_end i e = rw e

pub fold_next : {A B : Type 0} (f : B → A → B) {b c : B} (l : List A) (i : ℕ) {x : A} → drop i l ≡ x ∷ drop (i + 1) l → f b x ≡ c
    → fold_from f b l i ≡ fold_from f c l (i + 1)
unfolding fold_from
fold_next f l i e q = rw e (ap (λ z. foldl f z (drop (i + 1) l)) q)

-- a fold over what each element gives, for a loop in a loop
abbrev pub within : {A B C : Type 0} → (B → A → B) → (C → List A) → B → C → B
within f g b x = foldl f b (g x)

pub fold_within : {A B C : Type 0} (f : B → A → B) (g : C → List A) (b : B) (l : List C) → foldl f b (flat_map g l) ≡ foldl (within f g) b l
unfolding flat_map
fold_within f g b [] = refl
fold_within f g b (x ∷ xs) = foldl-append f b (g x) (flat_map g xs) ∙ fold_within f g (foldl f b (g x)) xs

-- a fold over those that pass a test
pub fold_select : {A B : Type 0} (p : A → Bool) (f : B → A → B) (b : B) (l : List A) → foldl (λ z x. cond (p x) (f z x) z) b l ≡ foldl f b (select p l)
fold_select p f b [] = refl
fold_select {B = B} p f b (x ∷ xs) = go (p x) (λ z. fold_select p f z xs)
  where
    go : (t : Bool) → ((z : B) → foldl (λ z x. cond (p x) (f z x) z) z xs ≡ foldl f z (select p xs))
        → foldl (λ z x. cond (p x) (f z x) z) (cond t (f b x) b) xs ≡ foldl f b (cond t (x ∷ select p xs) (select p xs))
    go true k = k (f b x)
    go false k = k b

-- a test of each element, joined by `any` or by `all`
module _ {A : Type 0} (join : List Bool → Bool) (p : A → Bool) (l : List A) where
  pub tests_from : ℕ → Bool
  tests_from i = join (map p (drop i l))

  pub tests_whole : join (map p l) ≡ tests_from 0
  unfolding tests_from
  tests_whole = refl

  pub tests_end : (i : ℕ) → drop i l ≡ [] → tests_from i ≡ join []
  unfolding tests_from
  tests_end i e = rw e

module _ {A : Type 0} (p : A → Bool) (l : List A) (i : ℕ) {x : A} {b : Bool} (next : drop i l ≡ x ∷ drop (i + 1) l) (test : p x ≡ b) where
  tests_next : (join : List Bool → Bool) (put : Bool → Bool → Bool) → ((c : Bool) (cs : List Bool) → join (c ∷ cs) ≡ put c (join cs))
      → tests_from join p l i ≡ put b (tests_from join p l (i + 1))
  unfolding tests_from
  tests_next join put law = rw (next, test) (law b (map p (drop (i + 1) l)))

  pub any_next : tests_from any p l i ≡ (b || tests_from any p l (i + 1))
  any_next = tests_next any ◌||◌ (λ c cs. refl)

  pub all-next : tests_from all p l i ≡ (b && tests_from all p l (i + 1))
  all-next = tests_next all ◌&&◌ (λ c cs. refl)

-- the tests of what each element gives, for a loop in a loop
tests_within : (join : List Bool → Bool) (put : Bool → Bool → Bool) → ((b : Bool) (bs : List Bool) → join (b ∷ bs) ≡ put b (join bs))
    → ((bs cs : List Bool) → join (bs ++ cs) ≡ put (join bs) (join cs))
    → {A B : Type 0} (p : B → Bool) (f : A → List B) (l : List A) → join (map p (flat_map f l)) ≡ join (map (λ (x : A). join (map p (f x))) l)
unfolding flat_map
tests_within join put law both p f [] = refl
tests_within join put law both p f (x ∷ xs) =
    rw (map-append p (f x) (flat_map f xs), both (map p (f x)) (map p (flat_map f xs)), tests_within join put law both p f xs)
    (sym (law (join (map p (f x))) (map (λ y. join (map p (f y))) xs)))

pub any-within : {A B : Type 0} (p : B → Bool) (f : A → List B) (l : List A) → any (map p (flat_map f l)) ≡ any (map (λ (x : A). any (map p (f x))) l)
any-within = tests_within any ◌||◌ (λ b bs. refl) both
  where
    both : (bs cs : List Bool) → any (bs ++ cs) ≡ (any bs || any cs)
    both [] cs = refl
    both (true ∷ bs) cs = refl
    both (false ∷ bs) cs = both bs cs

pub all-within : {A B : Type 0} (p : B → Bool) (f : A → List B) (l : List A) → all (map p (flat_map f l)) ≡ all (map (λ (x : A). all (map p (f x))) l)
all-within = tests_within all ◌&&◌ (λ b bs. refl) both
  where
    both : (bs cs : List Bool) → all (bs ++ cs) ≡ (all bs && all cs)
    both [] cs = refl
    both (true ∷ bs) cs = both bs cs
    both (false ∷ bs) cs = refl
