-- A test and the fact that it tests: one holds where the other does. And tests of which all must pass: each passes, and one
-- that fails is enough to fail all.
-- Assumes nothing.
use Prim.Native.Nat.{ℕ, zero, suc, ◌≤◌, ◌<◌}
use mathlib.Core.Path.{◌≡◌, refl}
use mathlib.Core.Bool.{Bool, true, false, ◌&&◌, ◌||◌}
use mathlib.Core.List.Memᴰ
use mathlib.Core.List.Memᴰ.{head as here}
use mathlib.Core.List.Memᴰ.{tail as there}
use mathlib.Core.List.{List, [], ◌∷◌, map, Memᴰ as In}
use mathlib.Core.Logic.Iff
use mathlib.Core.Logic.{◌↔◌, ◌⊎◌, inl, inr, ⊎_elim}
use lib.ListN.{get_or}
use lib.Dec.{ltb, leb, eqb}
use borrow.Author.Tests.{ltb-true, lt-ltb, leb-true, le-leb, eqb-true, eq-eqb}
use Rattle.rules.specs.Choice.{all, any}
use Rattle.rules.proofs.Basics.Lists.{never}

abbrev pub Tells : Bool → Type 0 → Type 0
Tells b P = (b ≡ true) ↔ P

pub tells_lt : (a b : ℕ) → Tells (ltb a b) (a < b)
tells_lt a b = (ltb-true a b, lt-ltb a b)

pub tells_le : (a b : ℕ) → Tells (leb a b) (a ≤ b)
tells_le a b = (leb-true a b, le-leb a b)

pub tells_eq : (a b : ℕ) → Tells (eqb a b) (a ≡ b)
tells_eq a b = (eqb-true a b, eq-eqb a b)

module _ {P Q : Type 0} where
  pub tells_and : (a b : Bool) → Tells a P → Tells b Q → Tells (a && b) (P × Q)
  tells_and true b f g = (λ e. (f.0 refl, g.0 e), λ r. g.1 r.1)
  tells_and false b f g = (λ e. never e refl, λ r. f.1 r.0)

  pub tells_or : (a b : Bool) → Tells a P → Tells b Q → Tells (a || b) (P ⊎ Q)
  tells_or true b f g = (λ e. inl (f.0 refl), λ r. refl)
  tells_or false b f g = (λ e. inr (g.0 e), λ r. ⊎_elim (λ (p : P). never (f.1 p) refl) g.1 r)

-- a test of each element of a list
module _ {A : Type 0} (p : A → Bool) (P : A → Type 0) (tells : (x : A) → Tells (p x) (P x)) where
  pub tells_all : (l : List A) → Tells (all (map p l)) ((x : A) → In x l → P x)
  tells_all [] = (λ e x i. absurd (Memᴰ.not-nil i), λ f. refl)
  tells_all (y ∷ ys) =
      Iff.trans (tells_and (p y) (all (map p ys)) (tells y) (tells_all ys)) (
        λ r x i. ⊎_elim (λ (h : x ≡ y). rw h r.0) (λ (h : In x ys). r.1 x h) (Memᴰ.cases_cons i),
        λ f. (f y (here refl), λ x i. f x (there i)),
      )

  pub tells-any : (l : List A) → Tells (any (map p l)) ((x : A) × In x l × P x)
  tells-any [] = (λ e. never e refl, λ r. absurd (Memᴰ.not-nil r.1))
  tells-any (y ∷ ys) =
      Iff.trans (tells_or (p y) (any (map p ys)) (tells y) (tells-any ys)) (
        λ r. ⊎_elim (λ (h : P y). (y, here refl, h)) (λ (h : (x : A) × In x ys × P x). (h.0, there h.1, h.2)) r,
        λ r. ⊎_elim (λ (h : r.0 ≡ y). inl (rw (← h) r.2)) (λ (h : In r.0 ys). inr (r.0, h, r.2)) (Memᴰ.cases_cons r.1),
      )

-- test i of a list, counted from 0
pub all_yes : (ts : List Bool) → all ts ≡ true → (i : ℕ) → get_or ts i true ≡ true
all_yes [] e i = refl
all_yes (b ∷ ts) e zero = ((tells_and b (all ts) Iff.rfl Iff.rfl).0 e).0
all_yes (b ∷ ts) e (suc i) = all_yes ts ((tells_and b (all ts) Iff.rfl Iff.rfl).0 e).1 i

pub all_no : (ts : List Bool) (i : ℕ) → get_or ts i true ≡ false → false ≡ all ts
all_no [] i e = never refl e
all_no (true ∷ ts) zero e = never refl e
all_no (true ∷ ts) (suc i) e = all_no ts i e
all_no (false ∷ ts) i e = refl

-- where not all of them pass, there is one that fails
pub all_fails : {A : Type 0} (p : A → Bool) (l : List A) → all (map p l) ≡ false → (x : A) × In x l × (p x ≡ false)
all_fails p [] e = never refl e
all_fails {A} p (x ∷ xs) e = go (p x) refl e (all_fails p xs)
  where
    go : (b : Bool) → p x ≡ b → b && all (map p xs) ≡ false → (all (map p xs) ≡ false → (y : A) × In y xs × (p y ≡ false))
        → (y : A) × In y (x ∷ xs) × (p y ≡ false)
    go false q e k = (x, here refl, q)
    go true q e k = let r = k e in (r.0, there r.1, r.2)
