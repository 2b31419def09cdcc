-- A number's decimal: its digits give the number again, none stands after a leading zero, and no other digits do so.
-- Assumes nothing.
use Prim.Native.Nat.{ℕ, zero, suc, ◌+◌, ◌-◌, ◌*◌, ◌/◌, ◌%◌, ◌^◌, ◌≤◌, ◌<◌}
use mathlib.Core.Path.{◌≡◌, refl, sym, ap, ◌∙◌}
use mathlib.Core.Bool.{Bool, true, false, cond, ◌&&◌}
use mathlib.Core.List.{List, [], ◌∷◌, ◌++◌, map, append-nil}
use mathlib.Core.Option.{some}
use mathlib.Core.Logic.Iff
use native.Mathlib.Omega.{arith}
use borrow.Author.Tests.{ltb-true, ltb-false, lt-ltb, le-ltb, leb-true, le-leb, eqb-false, not-true}
use lib.ListN.{length, length-append}
use lib.Pow.{pow-add}
use lib.Seq.{append_snoc}
use lib.Dec.{ltb, leb, eqb}
use Rattle.rules.specs.Choice.{all}
use Rattle.rules.proofs.Basics.Tests.{tells_and, all_yes}
use Rattle.rules.proofs.Basics.Lists.{never, given-some}
use Rattle.lines.specs.Lines.{is_digit, value_from, no_leading_zero, decimal_of}
use Rattle.lines.specs.Texts.{digits_in, decimal_text}
use Rattle.lines.proofs.Digits.{not_zero_first}

-- ---- a number's digits one by one

-- turns past the number's own change nothing
enough : (n m v : ℕ) → v < n → v < m → digits_in n v ≡ digits_in m v
unfolding digits_in
enough zero m v h k = absurd (omega arith)
enough (suc n) zero v h k = absurd (omega arith)
enough (suc n) (suc m) v h k = go (ltb v 10) refl (enough n m (v / 10))
  where
    go : (b : Bool) → ltb v 10 ≡ b → (v / 10 < n → v / 10 < m → digits_in n (v / 10) ≡ digits_in m (v / 10))
        → cond b [] (digits_in n (v / 10)) ++ ((48 + v % 10) ∷ []) ≡ cond b [] (digits_in m (v / 10)) ++ ((48 + v % 10) ∷ [])
    go true e r = refl
    go false e r = let l = ltb-false v 10 e in ap (λ (ds : List ℕ). ds ++ ((48 + v % 10) ∷ [])) (r (omega arith) (omega arith))

decimal_one : (v : ℕ) → v < 10 → decimal_text v ≡ (48 + v) ∷ []
unfolding decimal_text digits_in
decimal_one v h = let last : v % 10 ≡ v = omega arith in rw (lt-ltb v 10 h, last)

decimal_more : (v : ℕ) → 10 ≤ v → decimal_text v ≡ decimal_text (v / 10) ++ ((48 + v % 10) ∷ [])
unfolding decimal_text digits_in
decimal_more v h = rw (le-ltb v 10 h) (ap (λ (ds : List ℕ). ds ++ ((48 + v % 10) ∷ [])) (enough v (suc (v / 10)) (v / 10) (omega arith) (omega arith)))

-- ---- a number's decimal is read as the number

module _ (d : ℕ) where
  value-last : (v : ℕ) (ds : List ℕ) → value_from v (ds ++ (d ∷ [])) ≡ 10 * value_from v ds + (d - 48)
  value-last v [] = refl
  value-last v (e ∷ ds) = value-last (10 * v + (e - 48)) ds

  digits_last : (ds : List ℕ) → all (map is_digit ds) ≡ true → is_digit d ≡ true → all (map is_digit (ds ++ (d ∷ []))) ≡ true
  digits_last [] a b = rw b
  digits_last (e ∷ ds) a b = go (is_digit e) a (λ (t : all (map is_digit ds) ≡ true). digits_last ds t b)
    where
      go : (c : Bool) → all (c ∷ map is_digit ds) ≡ true → (all (map is_digit ds) ≡ true → all (map is_digit (ds ++ (d ∷ []))) ≡ true)
          → all (c ∷ map is_digit (ds ++ (d ∷ []))) ≡ true
      go true t r = r t
      go false t r = t

-- digits of the value v, of which the first is 0 only where it is the only one
record Spells (ds : List ℕ) (v : ℕ) : Type 0 where
  digits : all (map is_digit ds) ≡ true
  value : value_from 0 ds ≡ v
  leading : no_leading_zero ds ≡ true
  first : (v ≡ 0 → ⊥) → (d : ℕ) × (rest : List ℕ) × (ds ≡ d ∷ rest) × (d ≡ 48 → ⊥)

is_digit_lem : (d : ℕ) → 48 ≤ d → d ≤ 57 → is_digit d ≡ true
is_digit_lem d l h = rw (le-leb 48 d l, le-leb d 57 h)

spells_one : (v : ℕ) → v < 10 → Spells ((48 + v) ∷ []) v
spells_one v h =
    record {
      digits = rw (is_digit_lem (48 + v) (omega arith) (omega arith));
      value = omega arith;
      leading = refl;
      first = λ n. (48 + v, [], refl, λ e. n (omega arith));
    }

spells_more : (v : ℕ) (ds : List ℕ) → 10 ≤ v → Spells ds (v / 10) → Spells (ds ++ ((48 + v % 10) ∷ [])) v
spells_more v ds h s =
    let f = s.first (omega arith) in
    let e = ap (λ (l : List ℕ). l ++ ((48 + v % 10) ∷ [])) f.2 in
    record {
      digits = digits_last (48 + v % 10) ds s.digits (is_digit_lem (48 + v % 10) (omega arith) (omega arith));
      value = value-last (48 + v % 10) 0 ds ∙ omega (arith, s.value);
      leading = rw e (not_zero_first f.0 (f.1 ++ ((48 + v % 10) ∷ [])) f.3);
      first = λ n. (f.0, f.1 ++ ((48 + v % 10) ∷ []), e, f.3);
    }

spells : (n v : ℕ) → v < n → Spells (decimal_text v) v
spells zero v h = absurd (omega arith)
spells (suc n) v h = go (ltb v 10) refl (spells n (v / 10))
  where
    go : (b : Bool) → ltb v 10 ≡ b → (v / 10 < n → Spells (decimal_text (v / 10)) (v / 10)) → Spells (decimal_text v) v
    go true e r = rw (decimal_one v (ltb-true v 10 e)) (spells_one v (ltb-true v 10 e))
    go false e r = let l = ltb-false v 10 e in rw (decimal_more v l) (spells_more v (decimal_text (v / 10)) l (r (omega arith)))

pub decimal_read : (v : ℕ) → v < 2 ^ 64 → decimal_of (decimal_text v) ≡ some v
unfolding decimal_of
decimal_read v h = let s = spells (suc v) v (omega arith) in rw (s.leading, s.digits, s.value, lt-ltb v (2 ^ 64) h)

-- ---- digits without a leading zero are the decimal of their value

pub all_both : (a b : Bool) → a && b ≡ true → (a ≡ true) × (b ≡ true)
all_both a b = (tells_and a b Iff.rfl Iff.rfl).0

digit_bounds : (d : ℕ) → is_digit d ≡ true → (48 ≤ d) × (d ≤ 57)
digit_bounds d e = let t = all_both (leb 48 d) (leb d 57) e in (leb-true 48 d t.0, leb-true d 57 t.1)

decimal_digit : (v d : ℕ) → 1 ≤ v → is_digit d ≡ true → decimal_text (10 * v + (d - 48)) ≡ decimal_text v ++ (d ∷ [])
decimal_digit v d h e =
    let w : ℕ = 10 * v + (d - 48) in
    let b = digit_bounds d e in
    let q : w / 10 ≡ v = omega arith in
    let r : 48 + w % 10 ≡ d = omega arith in
    rw (decimal_more w (omega arith), q, r)

-- further digits after a number that is not 0 stand after its decimal
decimal_after_lem : (v : ℕ) (ds : List ℕ) → 1 ≤ v → all (map is_digit ds) ≡ true → decimal_text (value_from v ds) ≡ decimal_text v ++ ds
decimal_after_lem v [] h a = sym (append-nil (decimal_text v))
decimal_after_lem v (d ∷ ds) h a =
    let t = all_both (is_digit d) (all (map is_digit ds)) a in
    let w : ℕ = 10 * v + (d - 48) in
    decimal_after_lem w ds (omega arith) t.1 ∙ (ap (λ (l : List ℕ). l ++ ds) (decimal_digit v d h t.0) ∙ append_snoc (decimal_text v) d ds)

-- one digit
decimal_first : (d : ℕ) → is_digit d ≡ true → decimal_text (0 + (d - 48)) ≡ d ∷ []
decimal_first d e = let b = digit_bounds d e in let r : 48 + (0 + (d - 48)) ≡ d = omega arith in rw (decimal_one (0 + (d - 48)) (omega arith), r)

decimal_only : (ds : List ℕ) → no_leading_zero ds ≡ true → all (map is_digit ds) ≡ true → decimal_text (value_from 0 ds) ≡ ds
decimal_only [] l a = never l refl
decimal_only (d ∷ []) l a = decimal_first d (all_both (is_digit d) true a).0
decimal_only (d ∷ (e ∷ ds)) l a =
    let t = all_both (is_digit d) (all (map is_digit (e ∷ ds))) a in
    let b = digit_bounds d t.0 in
    let n = eqb-false d 48 (not-true (eqb d 48) l) in
    decimal_after_lem (0 + (d - 48)) (e ∷ ds) (omega arith) t.1 ∙ ap (λ (l : List ℕ). l ++ (e ∷ ds)) (decimal_first d t.0)

pub decimal_spelt : (ds : List ℕ) (v : ℕ) → decimal_of ds ≡ some v → (ds ≡ decimal_text v) × (v < 2 ^ 64)
unfolding decimal_of
decimal_spelt ds v e =
    let tests = no_leading_zero ds ∷ all (map is_digit ds) ∷ ltb (value_from 0 ds) (2 ^ 64) ∷ [] in
    let g = given-some (all tests) (value_from 0 ds) v e in (
      sym (decimal_only ds (all_yes tests g.0 0) (all_yes tests g.0 1))
          ∙ ap decimal_text g.1,
      rw g.1 at (ltb-true (value_from 0 ds) (2 ^ 64) (all_yes tests g.0 2)),
    )

-- ---- how many there are

-- a number below 10^(k + 1) has at most k + 1 digits
pub digits_few : (n k v : ℕ) → v < 10 ^ (k + 1) → length (digits_in n v) ≤ k + 1
unfolding digits_in
digits_few zero k v l = omega arith
digits_few (suc n) k v l = go (ltb v 10) refl k l (λ j h. digits_few n j (v / 10) h)
  where
    go : (b : Bool) → ltb v 10 ≡ b → (j : ℕ) → v < 10 ^ (j + 1) → ((i : ℕ) → v / 10 < 10 ^ (i + 1) → length (digits_in n (v / 10)) ≤ i + 1)
        → length (cond b [] (digits_in n (v / 10)) ++ ((48 + v % 10) ∷ [])) ≤ j + 1
    go true e j h tenth = omega arith
    go false e zero h tenth = absurd (omega (arith, ltb-false v 10 e, h))
    go false e (suc j) h tenth =
        let same : 10 ^ (suc j + 1) ≡ 10 ^ (j + 1 + 1) = ap (λ (i : ℕ). 10 ^ i) (omega arith) in
        let below : v / 10 < 10 ^ (j + 1) = omega (arith, h, pow-add 10 (j + 1) 1) in
        omega (arith, length-append (digits_in n (v / 10)) ((48 + v % 10) ∷ []), tenth j below)
