-- The bit and the tag of slot s in a token word, as the code sets and clears them, and what a table tells of the four bits.
-- Assumes nothing.
use Prim.Native.Nat.{ℕ, zero, suc, ◌+◌, ◌-◌, ◌*◌, ◌/◌, ◌%◌, ◌^◌, ◌≤◌, ◌<◌}
use mathlib.Core.Path.{◌≡◌, refl, sym, ap, ◌∙◌}
use mathlib.Core.Bool.{Bool, true, false, not, cond, ◌&&◌}
use native.Mathlib.Omega.{arith}
use lib.Bits.{bit_and, bit_or, and_mod, and_high}
use lib.Dec.{eqb, ltb}
use borrow.Author.Tests.{eqb-true}
use Rattle.rules.specs.Forms.{tagged, tag_of}
use Rattle.rules.specs.Words.{Table, key_word, key_in, keys_of, mark_meant}
use Rattle.rules.specs.Words.{token_number, is_taken, tag_in, mark, hide, lowest, lowest_free, lowest_taken}
use Rattle.rules.specs.declared.Header.{Header}
use Rattle.rules.proofs.Words.Fields.{four, tag_stays}
use Rattle.rules.proofs.Words.Tokens.{below, below_all, taken-number, number_tested, whole-read, low_read, no_tag_in}
use Rattle.reading.specs.Tokens.{entry_of}

-- one, s places up
pub shifted : (s : ℕ) → s < 4 → (1 * 2 ^ s % 18446744073709551616 ≡ 2 ^ s) × (2 ^ s ≤ 8)
shifted zero h = (refl, omega arith)
shifted (suc zero) h = (refl, omega arith)
shifted (suc (suc zero)) h = (refl, omega arith)
shifted (suc (suc (suc zero))) h = (refl, omega arith)
shifted (suc (suc (suc (suc s)))) h = absurd (omega arith)

-- a tag, at the bits of slot s
pub shifted_tag : (n s : ℕ) → s < 4 → n < 256 → n * 2 ^ (8 + 8 * s) % 18446744073709551616 ≡ n * 2 ^ (8 + 8 * s)
shifted_tag n s low l =
    four (λ s. n * 2 ^ (8 + 8 * s) % 18446744073709551616 ≡ n * 2 ^ (8 + 8 * s)) (omega arith) (omega arith) (omega arith) (omega arith) s low

-- a slot's mark is below 2^41
pub mark-fits : (bit tag s : ℕ) → s < 4 → bit < 2 → tag < 256 → mark s bit tag < 2 ^ 41
mark-fits bit tag s low b t = four (λ s. mark s bit tag < 2 ^ 41) (omega arith) (omega arith) (omega arith) (omega arith) s low

-- ---- a slot hidden and shown where slots have no tags, by computed tests of all token numbers and slots

clears_bit : ℕ → ℕ → Bool
clears_bit v z = eqb (bit_and v (15 - 2 ^ z)) (v - v / 2 ^ z % 2 * 2 ^ z)

sets_bit : ℕ → ℕ → Bool
sets_bit v z = eqb (bit_or v (2 ^ z)) (v - v / 2 ^ z % 2 * 2 ^ z + 2 ^ z)

of_slots : (test : ℕ → ℕ → Bool) → below 16 (λ v. below 4 (test v)) ≡ true → (w s : ℕ) → s < 4 → test (token_number w) s ≡ true
of_slots test e w s l = below_all 4 (test (token_number w)) (number_tested (λ v. below 4 (test v)) e w) s l

module _ (h : Header) (w s : ℕ) (low : s < 4) (kind : tagged h ≡ false) where
  hidden_low : token_number w - token_number w / 2 ^ s % 2 * 2 ^ s ≡ hide h w s
  unfolding hide
  hidden_low = rw (low_read h kind w, no_tag_in h kind w s low) (omega arith)

  pub hide_untagged : {v : ℕ} → v ≡ token_number w → bit_and v (15 - 1 * 2 ^ s % 18446744073709551616) ≡ hide h w s
  unfolding clears_bit
  hide_untagged e = rw (e, (shifted s low).0) (eqb-true _ _ (of_slots clears_bit refl w s low) ∙ hidden_low)

  pub show_untagged : {v tag : ℕ} → v ≡ token_number w → tag ≡ 0 → bit_or v (1 * 2 ^ s % 18446744073709551616) ≡ hide h w s + mark s 1 tag
  unfolding sets_bit
  show_untagged e f =
      rw (e, f, (shifted s low).0) (eqb-true _ _ (of_slots sets_bit refl w s low) ∙ ap (λ (n : ℕ). n + 2 ^ s) hidden_low ∙ omega arith)

-- ---- a slot hidden where slots have tags: its bit and its tag are taken away, each as the code cuts it out

-- a bit of the four is one of the number modulo 16
four_low : (w s : ℕ) → s < 4 → w % 16 / 2 ^ s % 2 ≡ w / 2 ^ s % 2
four_low w = four (λ s. w % 16 / 2 ^ s % 2 ≡ w / 2 ^ s % 2) (omega arith) (omega arith) (omega arith) (omega arith)

module _ (n : ℕ) where
  own-bit : (s : ℕ) → s < 4 → bit_and n (2 ^ s) ≡ n / 2 ^ s % 2 * 2 ^ s
  own-bit = four (λ s. bit_and n (2 ^ s) ≡ n / 2 ^ s % 2 * 2 ^ s) (and_high n 1 0) (and_high n 1 1) (and_high n 1 2) (and_high n 1 3)

  own_tag : (s : ℕ) → s < 4 → bit_and n (255 * 2 ^ (8 + 8 * s)) ≡ n / 2 ^ (8 + 8 * s) % 256 * 2 ^ (8 + 8 * s)
  own_tag =
      four (λ s. bit_and n (255 * 2 ^ (8 + 8 * s)) ≡ n / 2 ^ (8 + 8 * s) % 256 * 2 ^ (8 + 8 * s)) (and_high n 8 8) (and_high n 8 16) (and_high n 8 24)
      (and_high n 8 32)

module _ (h : Header) (w s : ℕ) (low : s < 4) where
  abbrev rest : ℕ
  rest = w - bit_and w (1 * 2 ^ s % 18446744073709551616)

  rest_is : rest ≡ w - w / 2 ^ s % 2 * 2 ^ s
  rest_is = rw ((shifted s low).0, own-bit w s low)

  pub hide-tagged : tagged h ≡ true → rest - bit_and rest (255 * 2 ^ (8 + 8 * s) % 18446744073709551616) ≡ hide h w s
  unfolding hide tag_in token_number
  hide-tagged e =
      rw (shifted_tag 255 s low (omega arith), own_tag rest s low, rest_is, tag_stays w s low, whole-read h e w, four_low w s low)
      (omega arith)

-- what the code adds for a slot that is taken by a key with that tag
module _ (tag s : ℕ) (low : s < 4) (small : tag < 256) where
  pub added_is : 1 * 2 ^ s % 18446744073709551616 + tag * 2 ^ (8 + 8 * s) % 18446744073709551616 ≡ mark s 1 tag
  added_is = rw ((shifted s low).0, shifted_tag tag s low small) (omega arith)

  pub added_small : 1 * 2 ^ s % 18446744073709551616 + tag * 2 ^ (8 + 8 * s) % 18446744073709551616 < 2 ^ 41
  added_small = rw added_is (mark-fits 1 tag s low (omega arith) small)

-- ---- what should stand there

-- what a slot adds to the word that should stand there
module _ (t : Table) (h : Header) (j w s : ℕ) where
  pub meant-taken : {tag key : ℕ} → is_taken h w s ≡ true → tag ≡ tag_of h key → key ≡ key_in t (record { level = 0; bucket = j; slot = s })
      → mark s 1 tag ≡ mark_meant h w (keys_of t j) s
  unfolding mark_meant keys_of key_in key_word
  meant-taken e f g = rw (e, f, g)

pub meant-free : (t : Table) (h : Header) (j w s : ℕ) → is_taken h w s ≡ false → 0 ≡ mark_meant h w (keys_of t j) s
unfolding mark_meant
meant-free t h j w s e = rw e

-- ---- tables over the sixteen token numbers

module _ (h : Header) (table : ℕ) (tell : (ℕ → Bool) → ℕ) where
  abbrev pub right : ℕ → Bool
  right n = eqb (entry_of table n) (tell (is_taken h n))

  -- a table that tells the right thing of each token number's bits, by a computed test of all sixteen, tells it of every word's
  pub told : below 16 right ≡ true → {r : ℕ} (word : ℕ) → r ≡ entry_of table (token_number word) → r ≡ tell (is_taken h word)
  told test word e = e ∙ eqb-true _ _ (number_tested right test word) ∙ (λ i. tell (λ (s : ℕ). taken-number h word s i))

-- ---- tests of whole token words

-- both or neither
alike : Bool → Bool → Bool
alike a b = cond a b (not b)

alike_same : (a b : Bool) → alike a b ≡ true → a ≡ b
unfolding alike
alike_same true b e = sym e
alike_same false false e = refl
alike_same false true e = e

-- the token number 0 has no taken slot, and no other has none
pub some-taken : (h : Header) (word : ℕ) → not (eqb (token_number word) 0) ≡ ltb (lowest_taken h word) 4
unfolding lowest_taken is_taken token_number alike
some-taken h word =
    alike_same _ _ (number_tested (λ n. alike (not (eqb n 0)) (ltb (lowest (is_taken h n)) 4)) refl word)
    ∙ (λ i. ltb (lowest (λ (s : ℕ). taken-number h word s i)) 4)

-- two words have no free slot where their common bits are all four, by a computed test of all pairs of token numbers
pub none_free : (h : Header) (v w : ℕ) → eqb (token_number (bit_and v w)) 15 ≡ eqb (lowest_free h v) 4 && eqb (lowest_free h w) 4
unfolding lowest_free is_taken token_number alike
none_free h v w =
    ap (λ (n : ℕ). eqb n 15) (and_mod v w 4)
    ∙ alike_same _ _ (number_tested (λ n. right (token_number v) n) (number_tested (λ m. below 16 (right m)) refl v) w)
    ∙ (λ i. full (λ (s : ℕ). taken-number h v s i) && full (λ (s : ℕ). taken-number h w s i))
  where
    full : (ℕ → Bool) → Bool
    full p = eqb (lowest (λ (s : ℕ). not (p s))) 4

    right : ℕ → ℕ → Bool
    right m n = alike (eqb (bit_and m n) 15) (full (is_taken h m) && full (is_taken h n))
