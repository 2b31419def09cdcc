-- The first answer along a list, from an index on: for a loop that is left at the first answer.
-- Assumes nothing.
use Prim.Native.Nat.{ℕ, suc, ◌+◌, ◌≤◌, ◌<◌}
use mathlib.Core.Path.{◌≡◌, refl, ap, ◌∙◌}
use mathlib.Core.List.{List, [], ◌∷◌}
use mathlib.Core.Option.{Option, none, some}
use native.Mathlib.Omega.{arith}
use lib.ListN.{length, get_or, take, drop}
use Rattle.rules.specs.Choice.{or_else, first_of}
use Rattle.rules.proofs.Basics.Lists.{not_some}
use Rattle.rules.proofs.Basics.Walks.{first_next, first-end}

module _ {A B : Type 0} (f : A → Option B) (l : List A) where
  unfoldable pub along : ℕ → Option B
  along i = first_of f (drop i l)

  pub along_all : first_of f l ≡ along 0
  unfolding along
  along_all = refl

  pub along_over : (i : ℕ) → drop i l ≡ [] → along i ≡ none
  unfolding along
  along_over i e = rw e

  module _ (i : ℕ) {a : A} (next : drop i l ≡ a ∷ drop (i + 1) l) where
    pub along_pass : f a ≡ none → along i ≡ along (i + 1)
    unfolding along
    along_pass e = rw (next, e)

    pub along_hit : {b : B} → f a ≡ some b → along i ≡ some b
    unfolding along
    along_hit e = rw (next, e)

-- a second search along the list, which finds nothing where the first finds nothing, may begin where the first has found something
module _ {A B C : Type 0} (f : A → Option B) (g : A → Option C) (less : (x : A) → f x ≡ none → g x ≡ none) where
  pub record Begins (l : List A) (b : B) : Type 0 where
    pub index : ℕ
    pub element : A
    pub next : drop index l ≡ element ∷ drop (index + 1) l
    pub gives : f element ≡ some b
    pub same : first_of g l ≡ first_of g (drop index l)

  pub along_begins : (l : List A) (b : B) → first_of f l ≡ some b → Begins l b
  along_begins [] b e = not_some e
  along_begins (x ∷ xs) b e = go (f x) refl e (along_begins xs b)
    where
      go : (o : Option B) → f x ≡ o → or_else o (first_of f xs) ≡ some b → (first_of f xs ≡ some b → Begins xs b) → Begins (x ∷ xs) b
      go (some c) q e k = record { index = 0; element = x; next = refl; gives = q ∙ e; same = refl }
      go none q e k =
          let r = k e in
          let on : suc r.index + 1 ≡ suc (r.index + 1) = omega arith in
          record {
            index = suc r.index;
            element = r.element;
            next = rw on r.next;
            gives = r.gives;
            same = ap (λ (o : Option C). or_else o (first_of g xs)) (less x q) ∙ r.same;
          }

-- along the first n of an array; d is what it has past its end
module _ {A B : Type 0} (f : A → Option B) (d : A) (n : ℕ) (xs : List A) (l : n ≤ length xs) (i : ℕ) where
  pub first_pass : i < n → f (get_or xs i d) ≡ none → along f (take n xs) i ≡ along f (take n xs) (i + 1)
  first_pass h e = along_pass f (take n xs) i (first_next d n xs l i h) e

  pub first_hit : {b : B} → i < n → f (get_or xs i d) ≡ some b → along f (take n xs) i ≡ some b
  first_hit h e = along_hit f (take n xs) i (first_next d n xs l i h) e

  pub first-over : n ≤ i → along f (take n xs) i ≡ none
  first-over h = along_over f (take n xs) i (first-end d n xs l i h)
