-- What the rules' choices from lists mean: the first answer, those that pass a test, what each element gives.
-- Assumes nothing.
use Prim.Native.Nat.{ℕ, zero, suc, ◌+◌, ◌≤◌, ◌<◌}
use mathlib.Core.Path.{◌≡◌, refl, sym, ap, ◌∙◌}
use mathlib.Core.Bool.{Bool, true, false, cond}
use mathlib.Core.List.Memᴰ
use mathlib.Core.List.Memᴰ.{head as here}
use mathlib.Core.List.Memᴰ.{tail as there}
use mathlib.Core.List.{List, [], ◌∷◌, ◌++◌, map, flat_map, Memᴰ as In}
use mathlib.Core.Logic.{◌⊎◌, inl, inr, ⊎_elim}
use mathlib.Core.Option
use mathlib.Core.Option.{Option, none, some}
use native.Mathlib.Nat.{zero-add}
use native.Mathlib.Numerals.{one-add}
use native.Mathlib.Omega.{arith}
use native.Mathlib.Decide.{ℕ_discrete}
use lib.ListN.{length}
use Rattle.rules.specs.Choice.{given, or_else, select, empty, first_of, from}

pub never : {A : Type 0} {b : Bool} → b ≡ true → b ≡ false → A
never p q = absurd (let z : ◌≡◌ {A = ℕ} 0 1 = cc in omega arith)

pub not_some : {A B : Type 0} {b : B} → ◌≡◌ {A = Option B} none (some b) → A
not_some p = absurd (let z : ◌≡◌ {A = ℕ} 0 1 = cc in omega arith)

pub some_one : {B : Type 0} {a b : B} → some a ≡ some b → a ≡ b
some_one p = cc

-- ---- the first answer

module _ {A B : Type 0} (f : A → Option B) where
  -- where there is one: what stands before it gives none
  pub record First (l : List A) (b : B) : Type 0 where
    pub earlier : List A
    pub found : A
    pub later : List A
    pub split : l ≡ earlier ++ (found ∷ later)
    pub inside : In found l
    pub gives : f found ≡ some b
    pub before : (x : A) → In x earlier → f x ≡ none

  pub first_of-some : (l : List A) (b : B) → first_of f l ≡ some b → First l b
  first_of-some [] b e = not_some e
  first_of-some (x ∷ xs) b e = go (f x) refl e (first_of-some xs b)
    where
      go : (o : Option B) → f x ≡ o → or_else o (first_of f xs) ≡ some b → (first_of f xs ≡ some b → First xs b) → First (x ∷ xs) b
      go (some c) q e k = record {
        earlier = [];
        found = x;
        later = xs;
        split = refl;
        inside = here refl;
        gives = q ∙ e;
        before =
            λ y i. absurd (Memᴰ.not-nil i);
      }
      go none q e k =
          let r = k e in
          record {
            earlier = x ∷ r.earlier;
            found = r.found;
            later = r.later;
            split = ap (λ l. x ∷ l) r.split;
            inside = there r.inside;
            gives = r.gives;
            before = λ y i. ⊎_elim (λ (h : y ≡ x). rw h q) (λ (h : In y r.earlier). r.before y h) (Memᴰ.cases_cons i);
          }

  pub first_of-none : (l : List A) → first_of f l ≡ none → (x : A) → In x l → f x ≡ none
  first_of-none [] e x i = absurd (Memᴰ.not-nil i)
  first_of-none (y ∷ ys) e x i = go (f y) refl e (λ g j. first_of-none ys g x j)
    where
      go : (o : Option B) → f y ≡ o → or_else o (first_of f ys) ≡ none → (first_of f ys ≡ none → In x ys → f x ≡ none) → f x ≡ none
      go (some c) q e k = not_some (sym e)
      go none q e k = ⊎_elim (λ (h : x ≡ y). rw h q) (λ (h : In x ys). k e h) (Memᴰ.cases_cons i)

  pub none-first_of : (l : List A) → ((x : A) → In x l → f x ≡ none) → first_of f l ≡ none
  none-first_of [] k = refl
  none-first_of (x ∷ xs) k = rw (k x (here refl)) (none-first_of xs (λ y i. k y (there i)))

-- a value given by a test
-- two searches that answer alike find the same
pub first_of-same : {A B : Type 0} (f g : A → Option B) (l : List A) → ((x : A) → In x l → f x ≡ g x) → first_of f l ≡ first_of g l
first_of-same f g [] e = refl
first_of-same f g (x ∷ l) e = rw (e x (here refl), first_of-same f g l (λ y i. e y (there i)))

pub given-some : {A : Type 0} (b : Bool) (a c : A) → given b a ≡ some c → (b ≡ true) × (a ≡ c)
given-some true a c e = (refl, some_one e)
given-some false a c e = not_some e

pub given-none : {A : Type 0} (b : Bool) (a : A) → given b a ≡ none → b ≡ false
given-none true a e = not_some (sym e)
given-none false a e = refl

-- ---- those that pass a test

-- a test as a number
abbrev pub one : Bool → ℕ
one true = 1
one false = 0

module _ {A : Type 0} (p : A → Bool) where
  pub select_in : (l : List A) (x : A) → In x (select p l) → In x l × (p x ≡ true)
  select_in [] x i = absurd (Memᴰ.not-nil i)
  select_in (y ∷ ys) x i = go (p y) refl i (select_in ys x)
    where
      go : (b : Bool) → p y ≡ b → In x (cond b (y ∷ select p ys) (select p ys)) → (In x (select p ys) → In x ys × (p x ≡ true))
          → In x (y ∷ ys) × (p x ≡ true)
      go true q i k = ⊎_elim (λ (h : x ≡ y). (here h, rw h q)) (λ (h : In x (select p ys)). (there (k h).0, (k h).1)) (Memᴰ.cases_cons i)
      go false q i k = (there (k i).0, (k i).1)

  pub select_length : (x : A) (l : List A) → length (select p (x ∷ l)) ≡ one (p x) + length (select p l)
  select_length x l = go (p x)
    where
      go : (b : Bool) → length (cond b (x ∷ select p l) (select p l)) ≡ one b + length (select p l)
      go true = sym (one-add _)
      go false = sym (zero-add _)

  -- as many as there are: all of them
  pub select_most : (l : List A) → length (select p l) ≤ length l
  select_most [] = omega arith
  select_most (x ∷ xs) = go (p x) (select_most xs)
    where
      go : (b : Bool) → length (select p xs) ≤ length xs → length (cond b (x ∷ select p xs) (select p xs)) ≤ length (x ∷ xs)
      go true k = omega arith
      go false k = omega arith

  pub select-whole : (l : List A) → length (select p l) ≡ length l → (x : A) → In x l → p x ≡ true
  select-whole [] e x i = absurd (Memᴰ.not-nil i)
  select-whole (y ∷ ys) e x i = go (p y) refl e (λ g j. select-whole ys g x j)
    where
      go : (b : Bool) → p y ≡ b → length (cond b (y ∷ select p ys) (select p ys)) ≡ length (y ∷ ys)
          → (length (select p ys) ≡ length ys → In x ys → p x ≡ true) → p x ≡ true
      go true q e k = ⊎_elim (λ (h : x ≡ y). rw h q) (λ (h : In x ys). k (omega arith) h) (Memᴰ.cases_cons i)
      go false q e k = absurd (omega (arith, select_most ys))

  pub select-all : (l : List A) → ((x : A) → In x l → p x ≡ true) → length (select p l) ≡ length l
  select-all [] f = refl
  select-all (y ∷ ys) f = go (p y) (f y (here refl)) (select-all ys (λ x i. f x (there i)))
    where
      go : (b : Bool) → b ≡ true → length (select p ys) ≡ length ys → length (cond b (y ∷ select p ys) (select p ys)) ≡ length (y ∷ ys)
      go true q k = omega arith
      go false q k = never q refl

pub select-every : {A : Type 0} (p : A → Bool) (l : List A) → ((x : A) → In x l → p x ≡ true) → select p l ≡ l
select-every p [] f = refl
select-every p (x ∷ l) f = rw (f x (here refl)) (ap (λ r. x ∷ r) (select-every p l (λ y i. f y (there i))))

-- ---- whether there are any

module _ {A : Type 0} where
  pub empty-none : (l : List A) → empty l ≡ true → (x : A) → In x l → ⊥
  empty-none [] e x i = Memᴰ.not-nil i
  empty-none (y ∷ ys) e x i = never e refl

  pub none-empty : (l : List A) → ((x : A) → In x l → ⊥) → empty l ≡ true
  none-empty [] f = refl
  none-empty (y ∷ ys) f = absurd (f y (here refl))

  pub empty-some : (l : List A) → empty l ≡ false → (x : A) × In x l
  empty-some [] e = never refl e
  empty-some (y ∷ ys) e = (y, here refl)

-- ---- what each element gives

pub map_in : {A B : Type 0} (f : A → B) (l : List A) (y : B) → In y (map f l) → (x : A) × In x l × (y ≡ f x)
map_in f [] y i = absurd (Memᴰ.not-nil i)
map_in f (x ∷ xs) y i =
    ⊎_elim (λ (h : y ≡ f x). (x, here refl, h)) (λ (h : In y (map f xs)). let r = map_in f xs y h in (r.0, there r.1, r.2))
    (Memᴰ.cases_cons i)

pub in_map : {A B : Type 0} (f : A → B) {x : A} {l : List A} → In x l → In (f x) (map f l)
in_map f (here e) = here (ap f e)
in_map f (there i) = there (in_map f i)

pub flat_map_in : {A B : Type 0} (f : A → List B) (l : List A) (y : B) → In y (flat_map f l) → (x : A) × In x l × In y (f x)
unfolding flat_map
flat_map_in f [] y i = absurd (Memᴰ.not-nil i)
flat_map_in f (x ∷ xs) y i =
    ⊎_elim (λ (h : In y (f x)). (x, here refl, h)) (λ (h : In y (flat_map f xs)). let r =
    flat_map_in f xs y h in (r.0, there r.1, r.2)) (Memᴰ.append_cases (f x) i)

pub from_in : (a n x : ℕ) → In x (from a n) → (a ≤ x) × (x < a + n)
from_in a zero x i = absurd (Memᴰ.not-nil i)
from_in a (suc n) x i = ⊎_elim (λ (h : x ≡ a). omega arith) (λ (h : In x (from (suc a) n)). omega (arith, from_in (suc a) n x h))
    (Memᴰ.cases_cons i)

-- those of two lists that pass a test
pub select_append : {A : Type 0} (p : A → Bool) (xs ys : List A) → select p (xs ++ ys) ≡ select p xs ++ select p ys
select_append p [] ys = refl
select_append {A} p (x ∷ xs) ys = go (p x) (select_append p xs ys)
  where
    go : (b : Bool) → select p (xs ++ ys) ≡ select p xs ++ select p ys
        → cond b (x ∷ select p (xs ++ ys)) (select p (xs ++ ys)) ≡ cond b (x ∷ select p xs) (select p xs) ++ select p ys
    go true k = ap (λ (l : List A). x ∷ l) k
    go false k = k

-- ---- lists in order

module _ {A : Type 0} (R : A → A → Type 0) where
  -- each element stands in R to every later one
  abbrev pub Ascending : List A → Type 0
  Ascending [] = Unit {0}
  Ascending (x ∷ xs) = ((y : A) → In y xs → R x y) × Ascending xs

  pub ascending_append : (xs ys : List A) → Ascending xs → Ascending ys → ((x y : A) → In x xs → In y ys → R x y) → Ascending (xs ++ ys)
  ascending_append [] ys a b c = b
  ascending_append (x ∷ xs) ys a b c = (
    λ y i. ⊎_elim (λ (h : In y xs). a.0 y h) (λ (h : In y ys). c x y (here refl) h) (Memᴰ.append_cases xs i),
    ascending_append xs ys a.1 b (λ z y i j. c z y (there i) j),
  )

  -- what stands after an element
  pub ascending-after : (xs : List A) (x : A) (ys : List A) → Ascending (xs ++ (x ∷ ys)) → (y : A) → In y ys → R x y
  ascending-after [] x ys a y i = a.0 y i
  ascending-after (z ∷ xs) x ys a y i = ascending-after xs x ys a.1 y i

  -- the order, told by parts of the list
  abbrev pub InOrder : List A → Type 0
  InOrder l = (before behind : List A) (x y : A) → l ≡ before ++ (x ∷ behind) → In y behind → R x y

  pub ascending-tells : (l : List A) → Ascending l → InOrder l
  ascending-tells l a before behind x y e i = ascending-after before x behind (rw e at a) y i

  pub ascending-told : (l : List A) → InOrder l → Ascending l
  ascending-told [] o = tt
  ascending-told (z ∷ zs) o =
      (λ y i. o [] zs z y refl i, ascending-told zs (λ before behind x y e i. o (z ∷ before) behind x y (ap (λ (l : List A). z ∷ l) e) i))

  pub ascending-select : (p : A → Bool) (l : List A) → Ascending l → Ascending (select p l)
  ascending-select p [] a = tt
  ascending-select p (x ∷ xs) a = go (p x) (ascending-select p xs a.1)
    where
      go : (b : Bool) → Ascending (select p xs) → Ascending (cond b (x ∷ select p xs) (select p xs))
      go true k = (λ y i. a.0 y (select_in p xs y i).0, k)
      go false k = k

pub ascending_flat_map : {A B : Type 0} (R : A → A → Type 0) (S : B → B → Type 0) (f : A → List B) (l : List A) → Ascending R l
    → ((x : A) → Ascending S (f x)) → ((x y : A) → R x y → (u v : B) → In u (f x) → In v (f y) → S u v) → Ascending S (flat_map f l)
unfolding flat_map
ascending_flat_map R S f [] a b c = tt
ascending_flat_map R S f (x ∷ xs) a b c =
    ascending_append S (f x) (flat_map f xs) (b x) (ascending_flat_map R S f xs a.1 b c)
    (λ u v i j. let r = flat_map_in f xs v j in c x r.0 (a.0 r.0 r.1) u v i r.2)

pub ascending-map : {A B : Type 0} (R : A → A → Type 0) (S : B → B → Type 0) (f : A → B) (l : List A) → Ascending R l
    → ((x y : A) → R x y → S (f x) (f y)) → Ascending S (map f l)
ascending-map R S f [] a c = tt
ascending-map R S f (x ∷ xs) a c =
    (λ y i. let r = map_in f xs y i in rw r.2 (c x r.0 (a.0 r.0 r.1)), ascending-map R S f xs a.1 c)

pub ascending_of_map : {A B : Type 0} (S : B → B → Type 0) (f : A → B) (l : List A) → Ascending S (map f l) → Ascending (λ x y. S (f x) (f y)) l
ascending_of_map S f [] a = tt
ascending_of_map S f (x ∷ xs) a = (λ y i. a.0 (f y) (in_map f i), ascending_of_map S f xs a.1)

pub ascending-from : (a n : ℕ) → Ascending ◌<◌ (from a n)
ascending-from a zero = tt
ascending-from a (suc n) = (λ y i. omega (arith, from_in (suc a) n y i), ascending-from (suc a) n)

-- what comes before an element of an ascending list stands before it
pub ascending-before : {A : Type 0} (R : A → A → Type 0) → ((x y : A) → R x y → R y x → ⊥) → (xs : List A) (x : A) (ys : List A)
    → Ascending R (xs ++ (x ∷ ys)) → (y : A) → In y (xs ++ (x ∷ ys)) → R y x → In y xs
ascending-before R once xs x ys a y i b =
    ⊎_elim (λ (h : In y xs). h) (λ (h : In y (x ∷ ys)). absurd (⊎_elim (λ (e : y ≡ x). let c : R x x = rw e at b in once x x c c)
    (λ (j : In y ys). once x y (ascending-after R xs x ys a y j) b) (Memᴰ.cases_cons h))) (Memᴰ.append_cases xs i)

-- ---- the first answer along joined lists

module _ {A B : Type 0} where
  pub first_of_append : (f : A → Option B) (xs ys : List A) → first_of f (xs ++ ys) ≡ or_else (first_of f xs) (first_of f ys)
  first_of_append f [] ys = refl
  first_of_append f (x ∷ xs) ys = go (f x) (first_of_append f xs ys)
    where
      go : (o : Option B) → first_of f (xs ++ ys) ≡ or_else (first_of f xs) (first_of f ys)
          → or_else o (first_of f (xs ++ ys)) ≡ or_else (or_else o (first_of f xs)) (first_of f ys)
      go (some b) k = refl
      go none k = k

  module _ {C : Type 0} (f : B → Option C) where
    pub first_of-map : (g : A → B) (xs : List A) → first_of f (map g xs) ≡ first_of (λ x. f (g x)) xs
    first_of-map g [] = refl
    first_of-map g (x ∷ xs) = ap (or_else (f (g x))) (first_of-map g xs)

pub first_of_flat_map : {A B C : Type 0} (f : B → Option C) (g : A → List B) (xs : List A) → first_of f (flat_map g xs) ≡ first_of (λ x. first_of f (g x)) xs
unfolding flat_map
first_of_flat_map f g [] = refl
first_of_flat_map f g (x ∷ xs) = first_of_append f (g x) (flat_map g xs) ∙ ap (or_else (first_of f (g x))) (first_of_flat_map f g xs)

-- the first answer of those that pass a test
pub first_of-select : {A B : Type 0} (f : A → Option B) (p : A → Bool) (l : List A) → first_of f (select p l) ≡ first_of (λ x. cond (p x) (f x) none) l
first_of-select f p [] = refl
first_of-select f p (x ∷ l) = go (p x) (first_of-select f p l)
  where
    go : (b : Bool) → first_of f (select p l) ≡ first_of (λ y. cond (p y) (f y) none) l
        → first_of f (cond b (x ∷ select p l) (select p l)) ≡ or_else (cond b (f x) none) (first_of (λ y. cond (p y) (f y) none) l)
    go true k = ap (or_else (f x)) k
    go false k = k

-- the first that passes a test, each under a name
pub first_of-given : {A B : Type 0} (p : A → Bool) (g : A → B) (xs : List A)
    → first_of (λ x. given (p x) (g x)) xs ≡ Option.map g (first_of (λ x. given (p x) x) xs)
first_of-given p g [] = refl
first_of-given p g (x ∷ xs) = go (p x) (first_of-given p g xs)
  where
    go : (b : Bool) → first_of (λ x. given (p x) (g x)) xs ≡ Option.map g (first_of (λ x. given (p x) x) xs)
        → or_else (given b (g x)) (first_of (λ x. given (p x) (g x)) xs) ≡ Option.map g (or_else (given b x) (first_of (λ x. given (p x) x) xs))
    go true k = refl
    go false k = k

-- ---- what is in a list: the converses

pub in_select : {A : Type 0} (p : A → Bool) {x : A} {l : List A} → In x l → p x ≡ true → In x (select p l)
in_select p (here {x = y} e) q = let r : p y ≡ true = rw e at q in rw r (here e)
in_select p {x = x} (there {x = y} {xs = ys} i) q = go (p y) (in_select p i q)
  where
    go : (b : Bool) → In x (select p ys) → In x (cond b (y ∷ select p ys) (select p ys))
    go true k = there k
    go false k = k

pub in_flat_map : {A B : Type 0} (f : A → List B) {x : A} {l : List A} {y : B} → In x l → In y (f x) → In y (flat_map f l)
unfolding flat_map
in_flat_map f (here {xs = xs} e) j = Memᴰ.append_left (flat_map f xs) (rw e at j)
in_flat_map f (there {x = z} i) j = Memᴰ.append_right (f z) (in_flat_map f i j)

pub in_from : (a n x : ℕ) → a ≤ x → x < a + n → In x (from a n)
in_from a zero x low high = absurd (omega arith)
in_from a (suc n) x low high = go (ℕ_discrete x a) (in_from (suc a) n x)
  where
    go : Dec (x ≡ a) → (suc a ≤ x → x < suc a + n → In x (from (suc a) n)) → In x (a ∷ from (suc a) n)
    go (yes e) k = here e
    go (no d) k = there (k (omega arith) (omega arith))

-- ---- lists in order, and without repetition

module _ {A : Type 0} where
  -- of two elements of an ascending list one comes first
  pub ascending_compare : (R : A → A → Type 0) (l : List A) → Ascending R l → (x y : A) → In x l → In y l → (x ≡ y) ⊎ (R x y ⊎ R y x)
  ascending_compare R [] a x y i j = absurd (Memᴰ.not-nil i)
  ascending_compare R (z ∷ zs) a x y i j = go (Memᴰ.cases_cons i) (Memᴰ.cases_cons j) (ascending_compare R zs a.1 x y)
    where
      go : (x ≡ z) ⊎ In x zs → (y ≡ z) ⊎ In y zs → (In x zs → In y zs → (x ≡ y) ⊎ (R x y ⊎ R y x)) → (x ≡ y) ⊎ (R x y ⊎ R y x)
      go (inl e) (inl f) k = inl (e ∙ sym f)
      go (inl e) (inr j) k = inr (inl (rw e (a.0 y j)))
      go (inr i) (inl f) k = inr (inr (rw f (a.0 x i)))
      go (inr i) (inr j) k = k i j

  -- in another order, which may be known of the list's own elements only
  pub ascending-inside : (R S : A → A → Type 0) (l : List A) → Ascending R l → ((x y : A) → In x l → In y l → R x y → S x y) → Ascending S l
  ascending-inside R S [] a c = tt
  ascending-inside R S (x ∷ xs) a c =
      (λ y i. c x y (here refl) (there i) (a.0 y i), ascending-inside R S xs a.1 (λ y z i j. c y z (there i) (there j)))

  pub ascending_weaken : (R S : A → A → Type 0) (l : List A) → Ascending R l → ((x y : A) → R x y → S x y) → Ascending S l
  ascending_weaken R S l a c = ascending-inside R S l a (λ x y i j. c x y)

  -- two lists in one order with the same elements are one list
  pub ascending-one : (R : A → A → Type 0) → ((x y : A) → R x y → R y x → ⊥) → (xs ys : List A) → Ascending R xs → Ascending R ys
      → ((x : A) → In x xs → In x ys) → ((y : A) → In y ys → In y xs) → xs ≡ ys
  ascending-one R once [] [] a b f g = refl
  ascending-one R once [] (y ∷ ys) a b f g = absurd (Memᴰ.not-nil (g y (here refl)))
  ascending-one R once (x ∷ xs) [] a b f g = absurd (Memᴰ.not-nil (f x (here refl)))
  ascending-one R once (x ∷ xs) (y ∷ ys) a b f g = go first (ascending-one R once xs ys a.1 b.1)
    where
      first : x ≡ y
      first = pick (Memᴰ.cases_cons (f x (here refl))) (Memᴰ.cases_cons (g y (here refl)))
        where
          pick : (x ≡ y) ⊎ In x ys → (y ≡ x) ⊎ In y xs → x ≡ y
          pick (inl e) j = e
          pick (inr i) (inl e) = sym e
          pick (inr i) (inr j) = absurd (once x y (a.0 y j) (b.0 x i))

      -- an element of one list's rest is no other's first, and so stands in the other's rest
      rest : (z w : A) (zs ws : List A) → z ≡ w → ((v : A) → In v zs → R z v) → ((v : A) → In v (z ∷ zs) → In v (w ∷ ws)) → (v : A) → In v zs → In v ws
      rest z w zs ws e up f v i =
          ⊎_elim (λ (q : v ≡ w). let c : R z z = rw (q ∙ sym e) at (up v i) in absurd (once z z c c)) (λ (j : In v ws). j)
          (Memᴰ.cases_cons (f v (there i)))

      go : x ≡ y → (((v : A) → In v xs → In v ys) → ((v : A) → In v ys → In v xs) → xs ≡ ys) → x ∷ xs ≡ y ∷ ys
      go e k = let tails = k (rest x y xs ys e a.0 f) (rest y x ys xs (sym e) b.0 g) in λ i. e i ∷ tails i

  -- the two parts of a list in order
  pub ascending-parts : (R : A → A → Type 0) (xs ys : List A) → Ascending R (xs ++ ys)
      → Ascending R xs × Ascending R ys × ((x y : A) → In x xs → In y ys → R x y)
  ascending-parts R [] ys a = (tt, a, λ x y i j. absurd (Memᴰ.not-nil i))
  ascending-parts R (z ∷ xs) ys a = go (ascending-parts R xs ys a.1)
    where
      go : Ascending R xs × Ascending R ys × ((x y : A) → In x xs → In y ys → R x y)
          → Ascending R (z ∷ xs) × Ascending R ys × ((x y : A) → In x (z ∷ xs) → In y ys → R x y)
      go k = (
        (λ y i. a.0 y (Memᴰ.append_left ys i), k.0),
        k.1,
        λ x y i j. ⊎_elim (λ (e : x ≡ z). rw e (a.0 y (Memᴰ.append_right xs j))) (λ (h : In x xs). k.2 x y h j) (Memᴰ.cases_cons i),
      )

  abbrev pub NoRepeat : List A → Type 0
  NoRepeat = Ascending (λ (x y : A). x ≡ y → ⊥)
