-- The forms: which there are, and what each makes of a key before it is hashed. With `Tokens` this is all that knows what a form means.
-- Assumes nothing.
use Prim.Native.Nat.{ℕ, zero, suc, ◌+◌, ◌/◌, ◌%◌, ◌^◌, ◌<◌}
use mathlib.Core.Path.{◌≡◌, refl, ap, ◌∙◌}
use mathlib.Core.Bool.{Bool, true, false}
use mathlib.Core.List.{[], ◌∷◌}
use mathlib.Core.Logic.{inl, inr}
use native.Mathlib.Omega.{arith}
use lib.Bits.{bit_xor, xor_shr, xor_mod}
use lib.Dec.{eqb}
use borrow.Author.Tests.{eq-eqb, ne_eqb, eqb-true}
use Rattle.words.specs.Product.{product_of}
use Rattle.rules.specs.Choice.{any}
use Rattle.rules.specs.Forms.{form_good, GoodForm, tagged, mixed, tag_of}
use Rattle.rules.specs.Places.{hashes_of}
use Rattle.rules.specs.Demands.{with_state}
use Rattle.rules.specs.declared.State.{State}
use Rattle.rules.specs.declared.Header.{Header}
use Rattle.rules.proofs.Basics.Lists.{never}

-- ---- "any but 1 and 2"

pub good-form : (f : ℕ) → form_good f ≡ true → GoodForm f
unfolding form_good
good-form f e = go (eqb f 1) (eqb f 2) refl refl e
  where
    go : (a b : Bool) → eqb f 1 ≡ a → eqb f 2 ≡ b → any (a ∷ b ∷ []) ≡ true → GoodForm f
    go true b p q e = inl (eqb-true _ _ p)
    go false true p q e = inr (eqb-true _ _ q)
    go false false p q e = never e refl

pub form_passes : (f : ℕ) → GoodForm f → form_good f ≡ true
unfolding form_good
form_passes f (inl e) = rw (eq-eqb _ _ e)
form_passes f (inr e) = rw (ne_eqb f 1 (λ q. omega arith), eq-eqb _ _ e)

module _ (h : Header) where
  pub form1_untagged : h.form ≡ 1 → tagged h ≡ false
  unfolding tagged
  form1_untagged e = ne_eqb h.form 2 (λ q. omega arith)

  pub form2_tagged : h.form ≡ 2 → tagged h ≡ true
  unfolding tagged
  form2_tagged e = eq-eqb _ _ e

  -- ---- what is hashed of a key

  pub mixed_untagged : tagged h ≡ false → (key : ℕ) → mixed h key ≡ key
  unfolding mixed
  mixed_untagged e key = rw e

  pub mixed-tagged : tagged h ≡ true → (key : ℕ) → mixed h key ≡ bit_xor key (key / 2 ^ 32)
  unfolding mixed
  mixed-tagged e key = rw e

  pub tag_untagged : tagged h ≡ false → (key : ℕ) → tag_of h key ≡ 0
  unfolding tag_of
  tag_untagged e key = rw e

  pub tag_tagged : tagged h ≡ true → (key : ℕ) → tag_of h key ≡ product_of (mixed h key) h.mul1 / 2 ^ 24 % 256
  unfolding tag_of
  tag_tagged e key = rw e

-- an exclusive or by its bits: two equal ones give 0, two others 1
two_bits : (a b : ℕ) → a < 2 → b < 2 → bit_xor a b ≡ (a + b) % 2
two_bits zero zero l k = refl
two_bits zero (suc zero) l k = refl
two_bits (suc zero) zero l k = refl
two_bits (suc zero) (suc zero) l k = refl
two_bits (suc (suc a)) b l k = absurd (omega arith)
two_bits zero (suc (suc b)) l k = absurd (omega arith)
two_bits (suc zero) (suc (suc b)) l k = absurd (omega arith)

pub xor_bit : (a b i : ℕ) → bit_xor a b / 2 ^ i % 2 ≡ (a / 2 ^ i + b / 2 ^ i) % 2
xor_bit a b i =
    let u = a / 2 ^ i in
    let v = b / 2 ^ i in
    let low : bit_xor u v % 2 ≡ bit_xor (u % 2) (v % 2) = xor_mod u v 1 in
    ap (λ (n : ℕ). n % 2) (xor_shr a b i) ∙ low ∙ two_bits (u % 2) (v % 2) (omega arith) (omega arith) ∙ omega arith

-- the state plays no part
pub state_hashes : (h : Header) (s : State) (key : ℕ) → hashes_of (with_state h s) key ≡ hashes_of h key
unfolding hashes_of tag_of mixed tagged with_state
state_hashes h s key = refl
