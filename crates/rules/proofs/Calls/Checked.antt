-- The tests that come first: what lists stores has passed them, that of the header among them; and tests after tests.
-- Assumes nothing.
use Prim.Native.Nat.{ℕ}
use mathlib.Core.Path.{◌≡◌, refl, ap}
use mathlib.Core.Bool.{Bool, true, false, cond}
use mathlib.Core.List.Memᴰ
use mathlib.Core.List.Memᴰ.{head as here}
use mathlib.Core.List.Memᴰ.{tail as there}
use mathlib.Core.List.{List, [], ◌∷◌, ◌++◌, Memᴰ as In}
use mathlib.Core.Logic.{◌⊎◌, inl, inr, ⊎_elim}
use native.Mathlib.Omega.{arith}
use lib.ListN.{length}
use Rattle.rules.specs.Stores.{Store}
use Rattle.rules.specs.Words.{Table, header_of, GoodHeader}
use Rattle.rules.specs.Calls.{header_good, checked, changing_tests, query_tests, recover_tests, Outcome, refused, listed, Call, query, insert, update}
use Rattle.rules.specs.Calls.{delete, begin, shrink, back, step_from, end, recover, tests_of, outcome}
use Rattle.rules.specs.declared.Refusal.{Refusal}
use Rattle.rules.specs.declared.Refusal.TheVariants.{BadHeader}
use Rattle.rules.proofs.Words.Headers.{good-header}

module _ (o : Outcome) (xs : List Store) where
  pub checked-listed : (ts : List (Bool × Refusal)) → checked refused ts o ≡ listed xs → o ≡ listed xs
  checked-listed [] e = e
  checked-listed (x ∷ ts) e = go x.0 e (checked-listed ts)
    where
      go : (b : Bool) → cond b (checked refused ts o) (refused x.1) ≡ listed xs → (checked refused ts o ≡ listed xs → o ≡ listed xs) → o ≡ listed xs
      go true e k = k e
      go false e k = absurd (let z : ◌≡◌ {A = ℕ} 0 1 = cc in omega arith)

  pub checked_passed : (ts : List (Bool × Refusal)) → checked refused ts o ≡ listed xs → (x : Bool × Refusal) → In x ts → x.0 ≡ true
  checked_passed [] e x i = absurd (Memᴰ.not-nil i)
  checked_passed (y ∷ ts) e x i = go y.0 refl e (λ g j. checked_passed ts g x j)
    where
      go : (b : Bool) → y.0 ≡ b → cond b (checked refused ts o) (refused y.1) ≡ listed xs
          → (checked refused ts o ≡ listed xs → In x ts → x.0 ≡ true) → x.0 ≡ true
      go true q e k = ⊎_elim (λ (h : x ≡ y). rw h q) (λ (h : In x ts). k e h) (Memᴰ.cases_cons i)
      go false q e k = absurd (let z : ◌≡◌ {A = ℕ} 0 1 = cc in omega arith)

-- some tests, then others
pub checked_append : {A : Type 0} (refuse : Refusal → A) (ts us : List (Bool × Refusal)) (a : A)
    → checked refuse (ts ++ us) a ≡ checked refuse ts (checked refuse us a)
checked_append refuse [] us a = refl
checked_append refuse (x ∷ ts) us a = ap (λ (b : _). cond x.0 b (refuse x.1)) (checked_append refuse ts us a)

-- an answer that the tests let pass, told otherwise
pub checked_as : {A B : Type 0} (f : A → B) (refuse : Refusal → A) (ts : List (Bool × Refusal)) (a : A)
    → f (checked refuse ts a) ≡ checked (λ (r : Refusal). f (refuse r)) ts (f a)
checked_as f refuse [] a = refl
checked_as f refuse (x ∷ ts) a = go x.0 (checked_as f refuse ts a)
  where
    go : (b : Bool) → f (checked refuse ts a) ≡ checked (λ (r : Refusal). f (refuse r)) ts (f a)
        → f (cond b (checked refuse ts a) (refuse x.1)) ≡ cond b (checked (λ (r : Refusal). f (refuse r)) ts (f a)) (f (refuse x.1))
    go true k = k
    go false k = refl

-- all tests pass, or one that fails refuses
pub checked-either : {A : Type 0} (refuse : Refusal → A) (ts : List (Bool × Refusal)) (a : A)
    → (((x : Bool × Refusal) → In x ts → x.0 ≡ true) × (checked refuse ts a ≡ a))
    ⊎ ((x : Bool × Refusal) × In x ts × (checked refuse ts a ≡ refuse x.1))
checked-either refuse [] a = inl (λ x i. absurd (Memᴰ.not-nil i), refl)
checked-either {A} refuse (y ∷ ts) a = go y.0 refl (checked-either refuse ts a)
  where
    Either : List (Bool × Refusal) → A → Type 0
    Either us b = (((x : Bool × Refusal) → In x us → x.0 ≡ true) × (b ≡ a)) ⊎ ((x : Bool × Refusal) × In x us × (b ≡ refuse x.1))

    go : (b : Bool) → y.0 ≡ b → Either ts (checked refuse ts a) → Either (y ∷ ts) (cond b (checked refuse ts a) (refuse y.1))
    go true q (inl (all, e)) = inl (λ x i. ⊎_elim (λ (h : x ≡ y). rw h q) (λ (h : In x ts). all x h) (Memᴰ.cases_cons i), e)
    go true q (inr (x, i, e)) = inr (x, there i, e)
    go false q k = inr (y, here refl, refl)

-- every call has tested the header
header_tested : (t : Table) (n : ℕ) (q : Call) → In {A = Bool × Refusal} (header_good t, BadHeader) (tests_of t n q)
unfolding changing_tests query_tests recover_tests
header_tested t n (query key) = here refl
header_tested t n (insert key r) = here refl
header_tested t n (update key r) = here refl
header_tested t n (delete key) = here refl
header_tested t n begin = here refl
header_tested t n shrink = here refl
header_tested t n back = here refl
header_tested t n (step_from b) = here refl
header_tested t n end = here refl
header_tested t n recover = here refl

pub accepted-header : (t : Table) (n : ℕ) (q : Call) (xs : List Store) → outcome t n q ≡ listed xs → GoodHeader (length t) (header_of t)
unfolding outcome header_good
accepted-header t n q xs e = good-header (length t) (header_of t) (checked_passed _ xs (tests_of t n q) e (header_good t, BadHeader) (header_tested t n q))
