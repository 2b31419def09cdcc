-- Every cut of a list of stores: what holds of the table before the first store, after each, and after the last.
-- Assumes nothing.
use Prim.Native.Nat.{ℕ, zero, suc}
use mathlib.Core.List.{List, [], ◌∷◌, ◌++◌}
use lib.ListN.{take, set}
use Rattle.rules.specs.Words.{Table}
use Rattle.rules.specs.Stores.{Store, made}

module _ (P : Table → Type 0) where
  abbrev pub EveryCut : Table → List Store → Type 0
  EveryCut t [] = P t
  EveryCut t (x ∷ xs) = P t × EveryCut (set t x.0 x.1) xs

  pub cut-after : (t : Table) (xs : List Store) → EveryCut t xs → (n : ℕ) → P (made t (take n xs))
  cut-after t [] c zero = c
  cut-after t [] c (suc n) = c
  cut-after t (x ∷ xs) c zero = c.0
  cut-after t (x ∷ xs) c (suc n) = cut-after (set t x.0 x.1) xs c.1 n

  -- lists one after the other
  pub cuts_append : (t : Table) (xs ys : List Store) → EveryCut t xs → EveryCut (made t xs) ys → EveryCut t (xs ++ ys)
  cuts_append t [] ys a b = b
  cuts_append t (x ∷ xs) ys a b = (a.0, cuts_append (set t x.0 x.1) xs ys a.1 b)

pub cuts_weaken : (P Q : Table → Type 0) → ((u : Table) → P u → Q u) → (t : Table) (xs : List Store) → EveryCut P t xs → EveryCut Q t xs
cuts_weaken P Q f t [] c = f t c
cuts_weaken P Q f t (x ∷ xs) c = (f t c.0, cuts_weaken P Q f (set t x.0 x.1) xs c.1)
