-- What recovery asks of a list: whether it is empty, which is its only element, or whether there are more.
-- Assumes nothing.
use Prim.Native.Nat.{◌<◌}
use mathlib.Core.Path.{◌≡◌, refl, sym, ap, ◌∙◌}
use mathlib.Core.List.Memᴰ
use mathlib.Core.List.Memᴰ.{head as here}
use mathlib.Core.List.Memᴰ.{tail as there}
use mathlib.Core.List.{List, [], ◌∷◌, Memᴰ as In}
use mathlib.Core.Logic.{◌⊎◌, ⊎_elim, inl, inr}
use native.Mathlib.Omega.{arith}
use lib.ListN.{length}
use Rattle.rules.proofs.Basics.Lists.{NoRepeat}

module _ {A : Type 0} where
  -- the same list, or both with two elements or more
  abbrev pub Alike : List A → List A → Type 0
  Alike xs ys = (xs ≡ ys) ⊎ ((1 < length xs) × (1 < length ys))

  -- two elements that differ
  pub record Two (l : List A) : Type 0 where
    pub first : A
    pub second : A
    pub one : In first l
    pub other : In second l
    pub apart : first ≡ second → ⊥

  -- of lists without repetition: ys has elements of xs alone, and each element of xs unless it has two anyway
  pub alike_parts : (xs ys : List A) → NoRepeat xs → NoRepeat ys → ((y : A) → In y ys → In y xs) → ((x : A) → In x xs → In x ys ⊎ Two ys) → Alike xs ys
  alike_parts [] [] a b f g = inl refl
  alike_parts [] (y ∷ ys) a b f g = absurd (Memᴰ.not-nil (f y (here refl)))
  alike_parts (x ∷ xs) [] a b f g = absurd (⊎_elim (λ (i : In x []). Memᴰ.not-nil i) (λ (w : Two []). Memᴰ.not-nil w.one) (g x (here refl)))
  alike_parts (x ∷ []) (y ∷ []) a b f g = inl (ap (λ (z : A). z ∷ []) (sym (Memᴰ.eq_of_singleton (f y (here refl)))))
  alike_parts (x ∷ []) (y ∷ (z ∷ ys)) a b f g =
      absurd (b.0 z (here refl) (Memᴰ.eq_of_singleton (f y (here refl)) ∙ sym (Memᴰ.eq_of_singleton (f z (there (here refl))))))
  alike_parts (x ∷ (z ∷ xs)) (y ∷ []) a b f g = absurd (a.0 z (here refl) (only x (here refl) ∙ sym (only z (there (here refl)))))
    where
      only : (u : A) → In u (x ∷ (z ∷ xs)) → u ≡ y
      only u i =
          ⊎_elim (λ (j : In u (y ∷ [])). Memᴰ.eq_of_singleton j)
          (λ (w : Two (y ∷ [])). absurd (w.apart (Memᴰ.eq_of_singleton w.one ∙ sym (Memᴰ.eq_of_singleton w.other)))) (g u i)
  alike_parts (x ∷ (z ∷ xs)) (y ∷ (w ∷ ys)) a b f g = inr (omega arith)
