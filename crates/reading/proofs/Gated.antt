-- Through a gate: what an open and a shut one say of the tests, and a gate with one test more.
-- Assumes nothing.
use Prim.Native.Nat.{ℕ, ◌≤◌}
use mathlib.Core.Path.{◌≡◌, refl, sym, ap, ◌∙◌}
use mathlib.Core.Bool.{Bool, true, false, cond}
use mathlib.Core.List.Memᴰ
use mathlib.Core.List.{List, [], ◌∷◌, ◌++◌, Memᴰ as In}
use mathlib.Core.Logic.{⊎_elim}
use native.Mathlib.Omega.{arith}
use lib.ListN.{length}
use Rattle.rules.specs.Words.{Table, words_for, header_of, GoodHeader}
use Rattle.rules.specs.Calls.{header_good, checked}
use Rattle.rules.specs.declared.Header.{Header}
use Rattle.rules.specs.declared.Refusal.{Refusal}
use Rattle.rules.specs.declared.Refusal.TheVariants.{BadHeader}
use Rattle.rules.proofs.Words.Headers.{good-header}
use Rattle.reading.specs.Gates.{Gate, gate_of, also, header_test, Headed, Ready}
use Rattle.std.specs.Prelude.{Result, Ok, Err}
use Rattle.std.specs.Result.{IsErrAnd}
use Rattle.std.proofs.lemmas.Result.{err_from_is_err_and}

-- what `?` passes on is the error itself, as `From` makes it
pub passed_on : {T E : Type 0} {r : Result T E} {e : E} → IsErrAnd r (λ (d : E). d ≡ e) → r ≡ Err e
passed_on {r = r} k = let p = err_from_is_err_and r k in p.1 ∙ ap Err p.2

module _ {A : Type 0} (refuse : Refusal → A) (a : A) (g : Header) where
  opened : (h : Header) (ts : List (Bool × Refusal)) → checked Err ts (Ok g) ≡ Ok h → checked refuse ts a ≡ a
  opened h [] e = refl
  opened h (x ∷ ts) e = go x.0 e (opened h ts)
    where
      go : (b : Bool) → cond b (checked Err ts (Ok g)) (Err x.1) ≡ Ok h → (checked Err ts (Ok g) ≡ Ok h → checked refuse ts a ≡ a)
          → cond b (checked refuse ts a) (refuse x.1) ≡ a
      go true e k = k e
      go false e k = absurd (let z : ◌≡◌ {A = ℕ} 0 1 = cc in omega arith)

  closed : (r : Refusal) (ts : List (Bool × Refusal)) → checked Err ts (Ok g) ≡ Err r → checked refuse ts a ≡ refuse r
  closed r [] e = absurd (let z : ◌≡◌ {A = ℕ} 0 1 = cc in omega arith)
  closed r (x ∷ ts) e = go x.0 e (closed r ts)
    where
      go : (b : Bool) → cond b (checked Err ts (Ok g)) (Err x.1) ≡ Err r
          → (checked Err ts (Ok g) ≡ Err r → checked refuse ts a ≡ refuse r) → cond b (checked refuse ts a) (refuse x.1) ≡ refuse r
      go true e k = k e
      go false e k = let q : x.1 ≡ r = cc in ap refuse q

module _ (t : Table) (ts : List (Bool × Refusal)) {g : Gate} (e : g ≡ gate_of t ts) where
  -- a refusal is the one of the tests, whatever else would have followed
  pub gate_shut : {A : Type 0} (refuse : Refusal → A) (a : A) {r : Refusal} → g ≡ Err r → refuse r ≡ checked refuse ts a
  unfolding gate_of
  gate_shut refuse a q = sym (closed refuse a (header_of t) _ ts (sym e ∙ q))

  -- through an open gate the call goes on
  pub gate_open : {A : Type 0} (refuse : Refusal → A) (a : A) {h : Header} → g ≡ Ok h → a ≡ checked refuse ts a
  unfolding gate_of
  gate_open refuse a q = sym (opened refuse a (header_of t) _ ts (sym e ∙ q))

-- and every test passed
passed : (g h : Header) (ts : List (Bool × Refusal)) → checked Err ts (Ok g) ≡ Ok h → (x : Bool × Refusal) → In x ts → x.0 ≡ true
passed g h [] e x i = absurd (Memᴰ.not-nil i)
passed g h (y ∷ ts) e x i = go y.0 refl e (λ f j. passed g h ts f x j)
  where
    go : (b : Bool) → y.0 ≡ b → cond b (checked Err ts (Ok g)) (Err y.1) ≡ Ok h
        → (checked Err ts (Ok g) ≡ Ok h → In x ts → x.0 ≡ true) → x.0 ≡ true
    go true q e k = ⊎_elim (λ (j : x ≡ y). rw j q) (λ (j : In x ts). k e j) (Memᴰ.cases_cons i)
    go false q e k = absurd (let z : ◌≡◌ {A = ℕ} 0 1 = cc in omega arith)

pub gate_passed : (t : Table) (ts : List (Bool × Refusal)) {g : Gate} {h : Header} → g ≡ gate_of t ts → g ≡ Ok h
    → (x : Bool × Refusal) → In x ts → x.0 ≡ true
unfolding gate_of
gate_passed t ts e q = passed (header_of t) _ ts (sym e ∙ q)

-- ---- a gate with one test more

also-checked : (b : Bool) (x : Refusal) (h : Header) (ts : List (Bool × Refusal))
    → also b x (checked Err ts (Ok h)) ≡ checked Err (ts ++ ((b, x) ∷ [])) (Ok h)
also-checked b x h [] = refl
also-checked b x h (y ∷ ts) = go y.0 (also-checked b x h ts)
  where
    go : (d : Bool) → also b x (checked Err ts (Ok h)) ≡ checked Err (ts ++ ((b, x) ∷ [])) (Ok h)
        → also b x (cond d (checked Err ts (Ok h)) (Err y.1)) ≡ cond d (checked Err (ts ++ ((b, x) ∷ [])) (Ok h)) (Err y.1)
    go true k = k
    go false k = refl

pub also_more : (t : Table) (ts : List (Bool × Refusal)) (b : Bool) (x : Refusal) {g r : Gate} → g ≡ gate_of t ts → (r ≡ also b x g) × Ready t r
    → (r ≡ gate_of t (ts ++ ((b, x) ∷ []))) × Ready t r
unfolding gate_of
also_more t ts b x e a = (a.0 ∙ ap (also b x) e ∙ also-checked b x (header_of t) ts, a.1)

-- what the code makes of it; a shut gate has nothing to be ready with
module _ (b : Bool) (x : Refusal) (h : Header) where
  pub also_failed : b ≡ false → (Err x ≡ also b x (Ok h)) × Unit {0}
  also_failed f = (rw f, tt)

  pub also_passed : (t : Table) → Ready t (Ok h) → b ≡ true → (Ok h ≡ also b x (Ok h)) × Ready t (Ok h)
  also_passed t y f = (rw f, y)

-- behind a shut gate no test more is made
pub also_shut : (t : Table) (ts : List (Bool × Refusal)) (b : Bool) (x : Refusal) {g r : Gate} {e : Refusal} → g ≡ gate_of t ts → g ≡ Err e → r ≡ Err e
    → (r ≡ gate_of t (ts ++ ((b, x) ∷ []))) × Ready t r
also_shut t ts b x q s p = rw p (also_more t ts b x q (rw s, tt))

-- ---- test 1

module _ (t : Table) where
  pub header_bad : header_good t ≡ false → (Err BadHeader ≡ gate_of t (header_test t)) × Ready t (Err BadHeader)
  unfolding gate_of header_test
  header_bad e = (rw e, tt)

  pub header-good : {h : Header} → h ≡ header_of t → header_good t ≡ true → (Ok h ≡ gate_of t (header_test t)) × Ready t (Ok h)
  unfolding gate_of header_test header_good
  header-good q e = (rw (e, q), (q, rw q (good-header (length t) (header_of t) e)))

-- ---- what an open gate lets through

-- the header of a ready table is good
pub open_ready : (t : Table) (g : Gate) {h : Header} → Ready t g → g ≡ Ok h → GoodHeader (length t) (header_of t)
open_ready t g y q = let k = rw q at y in rw k.0 at k.1

-- and it is the table's own
pub open_headed : (t : Table) (g : Gate) {h : Header} → Ready t g → g ≡ Ok h → Headed t h
open_headed t g y q = let k = rw q at y in record { own = k.0; good = k.1 }

-- a table with a good header has the header's nine words
pub nine_words : {size : ℕ} {h : Header} → GoodHeader size h → 9 ≤ size
unfolding words_for
nine_words k = omega (arith, k.long)

pub long_enough : (t : Table) {g : Gate} {h : Header} → Ready t g → g ≡ Ok h → 9 ≤ length t
long_enough t y q = let k = rw q at y in nine_words k.1
