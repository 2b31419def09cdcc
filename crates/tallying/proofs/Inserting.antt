-- A credit put among others, those behind it moved up by one.
-- Assumes nothing.
use Rattle.std.proofs.Common.{◌≡◌, ℕ, suc, ◌+◌, ◌-◌, ◌≤◌, List, [], ◌∷◌, ◌++◌, length, take, drop, set, map, sym, refl, add-one, append-nil, ap, ◌∙◌, arith, append_assoc, take-take, length-take-le}
use Rattle.std.specs.List.{insert, copy_within}
use Rattle.std.proofs.lemmas.List.{drop-take, set-append_left, take-map, drop-map, map-append, drop_all}
use lib.Seq.{take-set-lt, take-suc-set}
use Rattle.tallying.specs.Functions.{inserted_at}

module _ {X : Type 0} (l : List X) (at last : ℕ) (x : X) (few : at ≤ last) (long : length l ≡ last + 1) where
  -- what stands before the place, and the new one
  head_set : set (take (suc at) l) at x ≡ take at l ++ (x ∷ [])
  head_set = sym (take-set-lt (suc at) l at x (omega arith)) ∙ take-suc-set l at x (omega (arith, long))

  moved : copy_within l at last (at + 1) ≡ take (suc at) l ++ drop at (take last l)
  moved =
      let behind : at + (last - at) ≡ last = omega arith in
      let all : at + 1 + (last - at) ≡ length l = omega (arith, long) in
      ap (λ (n : ℕ). take (at + 1) l ++ take (last - at) (drop at l) ++ drop n l) all
      ∙ ap (λ (m : List X). take (at + 1) l ++ take (last - at) (drop at l) ++ m) (drop_all (length l) l (omega arith))
      ∙ append-nil (take (at + 1) l ++ take (last - at) (drop at l))
      ∙ ap (λ (n : ℕ). take n l ++ take (last - at) (drop at l)) (add-one at)
      ∙ ap (λ (m : List X). take (suc at) l ++ m) (sym (drop-take at (last - at) l) ∙ ap (λ (n : ℕ). drop at (take n l)) behind)

  pub inserted : set (copy_within l at last (at + 1)) at x ≡ insert (take last l) at x
  inserted =
      ap (λ (m : List X). set m at x) moved
      ∙ set-append_left (take (suc at) l) (drop at (take last l)) at x (omega (arith, length-take-le (suc at) l (omega (arith, long))))
      ∙ ap (λ (m : List X). m ++ drop at (take last l)) head_set
      ∙ append_assoc (take at l) (x ∷ []) (drop at (take last l))
      ∙ ap (λ (m : List X). m ++ (x ∷ drop at (take last l))) (sym (take-take at last l few))

-- each part of the credits is that of the others, with its own
pub map-insert : {X : Type 0} (f : X → ℕ) (l : List X) (at : ℕ) (x : X) → map f (insert l at x) ≡ inserted_at at (f x) (map f l)
map-insert f l at x =
    map-append f (take at l) (x ∷ drop at l) ∙ rw (take-map f at l, drop-map f at l) refl
