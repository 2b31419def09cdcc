-- A function's place among ascending ones, found by halving.
-- Assumes nothing.
use Rattle.std.proofs.Common.{◌≡◌, ℕ, zero, suc, ◌+◌, ◌-◌, ◌/◌, ◌^◌, ◌<◌, ◌≤◌, Bool, true, false, cond, eqb, ltb, List, [], ◌∷◌, length, get_or, sym, refl, ap, pow-suc, arith, ltb-false, ltb-true, le-ltb, lt-ltb, eq-eqb, eqb-true}
use Rattle.std.proofs.lemmas.List.{get_or-map, length-map}
use borrow.Author.Tests.{eqb-false}
use Rattle.tallying.specs.Functions.{has, place_for, inserted_at}
use Rattle.tallying.specs.Credits.{Below, Ascending}
use Rattle.tallying.specs.Tallies.{functions_of}
use Rattle.tallying.specs.declared.Credit.{Credit}

pub true_false : true ≡ false → ⊥
true_false e = let z : ◌≡◌ {A = ℕ} 1 0 = ap (λ (b : Bool). cond b 1 0) e in omega (arith, z)

pub place-within : (f : ℕ) (gs : List ℕ) → place_for f gs ≤ length gs
place-within f [] = omega arith
place-within f (g ∷ gs) = go (ltb g f) (place-within f gs)
  where
    go : (b : Bool) → place_for f gs ≤ length gs → cond b (suc (place_for f gs)) 0 ≤ suc (length gs)
    go true l = omega arith
    go false l = omega arith

-- what is below all is below the i-th
pub below_at : (f : ℕ) (gs : List ℕ) (i : ℕ) → Below f gs → i < length gs → f < get_or gs i 0
below_at f (g ∷ gs) zero b l = b.0
below_at f (g ∷ gs) (suc i) b l = below_at f gs i b.1 (omega arith)
below_at f [] i b l = absurd (omega (arith, l))

-- a function above the i-th stands behind it
pub place-behind : (f : ℕ) (gs : List ℕ) (i : ℕ) → Ascending gs → i < length gs → get_or gs i 0 < f → i + 1 ≤ place_for f gs
place-behind f [] i a l k = absurd (omega (arith, l))
place-behind f (g ∷ gs) zero a l k = rw (lt-ltb g f k) (omega arith)
place-behind f (g ∷ gs) (suc i) a l k =
    let first : g < f = omega (arith, below_at g gs i a.0 (omega arith), k) in
    rw (lt-ltb g f first) (omega (arith, place-behind f gs i a.1 (omega arith) k))

-- and one that is not, not
pub place-before : (f : ℕ) (gs : List ℕ) (i : ℕ) → i < length gs → f ≤ get_or gs i 0 → place_for f gs ≤ i
place-before f [] i l k = absurd (omega (arith, l))
place-before f (g ∷ gs) zero l k = rw (le-ltb g f k) (omega arith)
place-before f (g ∷ gs) (suc i) l k = go (ltb g f) (place-before f gs i (omega arith) k)
  where
    go : (b : Bool) → place_for f gs ≤ i → cond b (suc (place_for f gs)) 0 ≤ suc i
    go true p = omega arith
    go false p = omega arith

-- ---- a function that is there stands at its place

pub at_has : (f : ℕ) (gs : List ℕ) (i : ℕ) → i < length gs → get_or gs i 0 ≡ f → has f gs ≡ true
at_has f [] i l e = absurd (omega (arith, l))
at_has f (g ∷ gs) zero l e = rw (eq-eqb g f e)
at_has f (g ∷ gs) (suc i) l e = go (eqb g f) (at_has f gs i (omega arith) e)
  where
    go : (b : Bool) → has f gs ≡ true → cond b true (has f gs) ≡ true
    go true h = refl
    go false h = h

pub below_has : (g f : ℕ) (gs : List ℕ) → Below g gs → has f gs ≡ true → g < f
below_has g f [] b h = absurd (true_false (sym h))
below_has g f (x ∷ gs) b h = go (eqb x f) refl h (below_has g f gs b.1)
  where
    go : (d : Bool) → eqb x f ≡ d → cond d true (has f gs) ≡ true → (has f gs ≡ true → g < f) → g < f
    go true e k later = rw (← (eqb-true x f e)) b.0
    go false e k later = later k

pub has_at : (f : ℕ) (gs : List ℕ) → Ascending gs → has f gs ≡ true → (place_for f gs < length gs) × (get_or gs (place_for f gs) 0 ≡ f)
has_at f [] a h = absurd (true_false (sym h))
has_at f (g ∷ gs) a h = go (eqb g f) refl h (has_at f gs a.1)
  where
    go : (d : Bool) → eqb g f ≡ d → cond d true (has f gs) ≡ true
        → (has f gs ≡ true → (place_for f gs < length gs) × (get_or gs (place_for f gs) 0 ≡ f))
        → (place_for f (g ∷ gs) < suc (length gs)) × (get_or (g ∷ gs) (place_for f (g ∷ gs)) 0 ≡ f)
    go true e k later = let same = eqb-true g f e in rw (le-ltb g f (omega (arith, same))) (omega arith, same)
    go false e k later = rw (lt-ltb g f (below_has g f gs a.0 k)) (omega (arith, (later k).0), (later k).1)

-- ---- a function put in its place among ascending ones

below_more : (g h : ℕ) (gs : List ℕ) → g < h → Below h gs → Below g gs
below_more g h [] l b = tt
below_more g h (x ∷ gs) l b = (omega (arith, b.0), below_more g h gs l b.1)

below_inserted : (g f at : ℕ) (gs : List ℕ) → g < f → Below g gs → Below g (inserted_at at f gs)
below_inserted g f zero gs l b = (l, b)
below_inserted g f (suc at) [] l b = (l, tt)
below_inserted g f (suc at) (x ∷ gs) l b = (b.0, below_inserted g f at gs l b.1)

pub inserted-order : (f : ℕ) (gs : List ℕ) → Ascending gs → has f gs ≡ false → Ascending (inserted_at (place_for f gs) f gs)
inserted-order f [] a h = (tt, tt)
inserted-order f (g ∷ gs) a h = go (eqb g f) refl h (inserted-order f gs a.1) (ltb g f) refl
  where
    go : (d : Bool) → eqb g f ≡ d → cond d true (has f gs) ≡ false → (has f gs ≡ false → Ascending (inserted_at (place_for f gs) f gs))
        → (b : Bool) → ltb g f ≡ b → Ascending (inserted_at (cond b (suc (place_for f gs)) 0) f (g ∷ gs))
    go true e k later b l = absurd (true_false k)
    go false e k later true l = (below_inserted g f (place_for f gs) gs (ltb-true g f l) a.0, later k)
    go false e k later false l =
        let above : f < g = omega (arith, ltb-false g f l, eqb-false g f e) in
        ((above, below_more f g gs above a.0), a)

-- ---- the search: the place is between the two ends

module _ (cs : List Credit) (f : ℕ) (order : Ascending (functions_of cs)) (d : Credit) where
  pub half-above : (middle : ℕ) → middle < length cs → (get_or cs middle d).function < f → middle + 1 ≤ place_for f (functions_of cs)
  half-above middle l k =
      place-behind f (functions_of cs) middle order (omega (arith, l, length-map cs (λ (c : Credit). c.function)))
      (omega (arith, k, get_or-map (λ (c : Credit). c.function) cs middle d 0 l))

  pub half_below : (middle : ℕ) → middle < length cs → f ≤ (get_or cs middle d).function → place_for f (functions_of cs) ≤ middle
  half_below middle l k =
      place-before f (functions_of cs) middle (omega (arith, l, length-map cs (λ (c : Credit). c.function)))
      (omega (arith, k, get_or-map (λ (c : Credit). c.function) cs middle d 0 l))

-- ---- ten halvings leave nothing of 512

halved : (n d e : ℕ) → d < 2 ^ suc n → e ≤ d / 2 → e < 2 ^ n
halved n d e l h = omega (arith, h, (rw (pow-suc 2 n) at l))

pub halvings_first : (d : ℕ) → d ≤ 512 → d < 2 ^ (10 - 0)
halvings_first d l = omega arith

pub halvings_next : (i d e : ℕ) → i < 10 → d < 2 ^ (10 - i) → e ≤ d / 2 → e < 2 ^ (10 - (i + 1))
halvings_next i d e l b h = let more : 10 - i ≡ suc (10 - (i + 1)) = omega arith in halved (10 - (i + 1)) d e (rw more at b) h
