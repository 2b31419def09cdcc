-- What the rules are written with: tests, and what is chosen from a list by a test. A choice by one test is the
-- library's `cond`, a map over a list its `map`, and its `flat_map` where each element gives several.
-- Assumes nothing.
use Rattle.std.specs.Prelude.{ℕ, zero, suc, Bool, true, false, cond, ◌&&◌, ◌||◌, List, [], ◌∷◌}
use Rattle.std.proofs.Math.Option.{Option, none, some}

-- all of some tests, and at least one of them
abbrev pub all : List Bool → Bool
all [] = true
all (b ∷ bs) = b && all bs

abbrev pub any : List Bool → Bool
any [] = false
any (b ∷ bs) = b || any bs

module _ {A : Type 0} where
  -- a value where a test passes
  abbrev pub given : Bool → A → Option A
  given true a = some a
  given false a = none

  -- the first of two, else the second
  abbrev pub or_else : Option A → Option A → Option A
  or_else (some a) b = some a
  or_else none b = b

  -- those that pass a test, in order
  abbrev pub select : (A → Bool) → List A → List A
  select p [] = []
  select p (x ∷ xs) = cond (p x) (x ∷ select p xs) (select p xs)

abbrev pub empty : {A : Type 0} → List A → Bool
empty [] = true
empty (x ∷ xs) = false

-- the first answer along a list
abbrev pub first_of : {A B : Type 0} → (A → Option B) → List A → Option B
first_of f [] = none
first_of f (x ∷ xs) = or_else (f x) (first_of f xs)

-- n numbers ascending from a
abbrev pub from : ℕ → ℕ → List ℕ
from a zero = []
from a (suc n) = a ∷ from (suc a) n
