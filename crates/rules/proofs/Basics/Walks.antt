-- What is left of a list, one element on: for loops that go along it by an index.
-- Assumes nothing.
use Prim.Native.Nat.{ℕ, zero, suc, ◌+◌, ◌≤◌, ◌<◌}
use mathlib.Core.Path.{◌≡◌, refl}
use mathlib.Core.List.Memᴰ.{head as here}
use mathlib.Core.List.Memᴰ.{tail as there}
use mathlib.Core.List.{List, [], ◌∷◌, Memᴰ as In}
use native.Mathlib.Numerals.{add-one}
use native.Mathlib.Nat.{add-zero, not-suc-le-zero, le_of_suc-le-suc}
use native.Mathlib.Omega.{arith}
use lib.ListN.{length, take, drop, get_or, drop_of_length-le}
use lib.Seq.{drop-cons, get_or-take, length-take-le}
use Rattle.rules.specs.Choice.{from}
use Rattle.rules.specs.Words.{slot_at, slots_in}
use Rattle.rules.specs.declared.Place.{Place}

-- ---- the slots of a bucket, from slot s on

module _ (p : Place) where
  pub slots_next : (s : ℕ) → s < 4 → drop s (slots_in p) ≡ slot_at p s ∷ drop (s + 1) (slots_in p)
  unfolding slots_in
  slots_next zero h = refl
  slots_next (suc zero) h = refl
  slots_next (suc (suc zero)) h = refl
  slots_next (suc (suc (suc zero))) h = refl
  slots_next (suc (suc (suc (suc s)))) h = absurd (omega arith)

  pub slots_end : (s : ℕ) → 4 ≤ s → drop s (slots_in p) ≡ []
  unfolding slots_in
  slots_end s h = drop_of_length-le (slots_in p) h

-- ---- the first n of a list, from i on

module _ {A : Type 0} (d : A) (n : ℕ) (xs : List A) (l : n ≤ length xs) (i : ℕ) where
  pub first_next : i < n → drop i (take n xs) ≡ get_or xs i d ∷ drop (i + 1) (take n xs)
  first_next h =
      let k : i < length (take n xs) = rw length-take-le h in
      rw (add-one, drop-cons (take n xs) i d, get_or-take)

  pub first-end : n ≤ i → drop i (take n xs) ≡ []
  first-end h = let k : length (take n xs) ≤ i = rw length-take-le h in drop_of_length-le (take n xs) k

pub get_d_in : {A : Type 0} (d : A) (xs : List A) (i : ℕ) → i < length xs → In (get_or xs i d) xs
get_d_in d [] i h = absurd (not-suc-le-zero h)
get_d_in d (x ∷ xs) zero h = here refl
get_d_in d (x ∷ xs) (suc i) h = there (get_d_in d xs i (le_of_suc-le-suc h))

-- an element that stands at i
pub stands_in : {A : Type 0} (xs : List A) (i : ℕ) {x : A} {rest : List A} → drop i xs ≡ x ∷ rest → In x xs
stands_in xs zero e = rw e (here refl)
stands_in [] (suc i) e = absurd (let z : ◌≡◌ {A = ℕ} 0 1 = cc in omega arith)
stands_in (y ∷ xs) (suc i) e = there (stands_in xs i e)

pub stands_at_lem : {A : Type 0} (d : A) (xs : List A) (i : ℕ) {x : A} {rest : List A} → drop i xs ≡ x ∷ rest → get_or xs i d ≡ x
stands_at_lem d xs zero e = rw e refl
stands_at_lem d [] (suc i) e = absurd (let z : ◌≡◌ {A = ℕ} 0 1 = cc in omega arith)
stands_at_lem d (y ∷ xs) (suc i) e = stands_at_lem d xs i e

-- element i is among the first n
pub among_first : {A : Type 0} (d : A) (n : ℕ) (xs : List A) → n ≤ length xs → (i : ℕ) → i < n → In (get_or xs i d) (take n xs)
among_first d n xs l i h =
    let k : i < length (take n xs) = rw length-take-le h in
    rw (← get_or-take n xs i d h) (get_d_in d (take n xs) i k)

-- ---- numbers ascending, from the i-th on

pub from_next : (a n i : ℕ) → i < n → drop i (from a n) ≡ (a + i) ∷ drop (i + 1) (from a n)
from_next a zero i h = absurd (not-suc-le-zero h)
from_next a (suc n) zero h = rw add-zero
from_next a (suc n) (suc i) h =
    let e : suc a + i ≡ a + suc i = omega arith in
    let f : suc i + 1 ≡ suc (i + 1) = omega arith in
    rw (f, ← e) (from_next (suc a) n i (le_of_suc-le-suc h))

pub from_length : (a n : ℕ) → length (from a n) ≡ n
from_length a zero = refl
from_length a (suc n) = rw (from_length (suc a) n)

pub from_end : (a n i : ℕ) → n ≤ i → drop i (from a n) ≡ []
from_end a n i h = let k : length (from a n) ≤ i = rw (from_length a n) h in drop_of_length-le (from a n) k
