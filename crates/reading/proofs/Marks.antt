-- The slots that a lookup reads, as marks in one word: what the arithmetic on four tags at once gives, byte by byte; and how the marks are gone
-- through from the lowest on.
-- Assumes nothing.
use Prim.Native.Nat.{ℕ, zero, suc, ◌+◌, ◌-◌, ◌*◌, ◌/◌, ◌%◌, ◌^◌, ◌≤◌, ◌<◌}
use mathlib.Core.Path.{◌≡◌, refl, sym, ap, ◌∙◌}
use mathlib.Core.Bool.{Bool, true, false, cond}
use native.Mathlib.Omega.{arith}
use native.Mathlib.Decide.{ℕ_discrete}
use lib.Bits.{bit_and, bit_or, bit_xor, and_block, or_block, xor_block, and_le_l, and_le_r, or_lt, xor_lt, xor_self, xor_add_and, and_mask, and_high, or_shr}
use lib.Count.{count_trailing_zeros}
use lib.Dec.{eqb, ltb}
use borrow.Author.Tests.{eq-eqb, ne_eqb, eqb-true, ltb-true}
use Rattle.rules.proofs.Basics.Lists.{never}
use Rattle.rules.proofs.Words.Fields.{four, built, Within, fields, bit_at, tag_at, gap_at, rest_at, bits_small, tags_small, gap-small}
use Rattle.rules.proofs.Words.Tokens.{below_all}
use Rattle.reading.specs.Tokens.{bit_where, fitting, readable, spread, lowest_mark, rest_of}

-- ---- four bytes

abbrev bytes : ℕ → ℕ → ℕ → ℕ → ℕ
bytes d c b a = ((d * 2 ^ 8 + c) * 2 ^ 8 + b) * 2 ^ 8 + a

-- an operation on bits goes byte by byte
module _ (op : ℕ → ℕ → ℕ) (block : (a b r s : ℕ) → r < 2 ^ 8 → s < 2 ^ 8 → op (a * 2 ^ 8 + r) (b * 2 ^ 8 + s) ≡ op a b * 2 ^ 8 + op r s) where
  by_bytes : (d c b a h g f e : ℕ) → c < 256 → b < 256 → a < 256 → g < 256 → f < 256 → e < 256
      → op (bytes d c b a) (bytes h g f e) ≡ bytes (op d h) (op c g) (op b f) (op a e)
  by_bytes d c b a h g f e lc lb la lg lf le =
      block ((d * 2 ^ 8 + c) * 2 ^ 8 + b) ((h * 2 ^ 8 + g) * 2 ^ 8 + f) a e la le
      ∙ ap (λ (z : ℕ). z * 2 ^ 8 + op a e)
      (block (d * 2 ^ 8 + c) (h * 2 ^ 8 + g) b f lb lf ∙ ap (λ (z : ℕ). z * 2 ^ 8 + op b f) (block d h c g lc lg))

-- ---- one byte

-- bit 7 of x plus 127, or of x: 0 where x is 0 alone
mark_of : ℕ → ℕ
mark_of x = bit_and (bit_or (bit_and x 127 + 127) x) 128

top_bit : (p q : ℕ) → p < 2 → q < 2 → (bit_or p q % 2 ≡ 0 → (p ≡ 0) × (q ≡ 0)) × (bit_or p q % 2 < 2)
top_bit zero zero l k = (λ e. (refl, refl), omega arith)
top_bit zero (suc zero) l k = (λ e. absurd (omega arith), omega arith)
top_bit (suc zero) zero l k = (λ e. absurd (omega arith), omega arith)
top_bit (suc zero) (suc zero) l k = (λ e. absurd (omega arith), omega arith)
top_bit (suc (suc p)) q l k = absurd (omega arith)
top_bit zero (suc (suc q)) l k = absurd (omega arith)
top_bit (suc zero) (suc (suc q)) l k = absurd (omega arith)

module _ (x : ℕ) (small : x < 256) where
  mark_is : mark_of x ≡ bit_or ((x % 128 + 127) / 128) (x / 128) % 2 * 128
  unfolding mark_of
  mark_is =
      and_high (bit_or (bit_and x 127 + 127) x) 1 7
      ∙ ap (λ (z : ℕ). z % 2 * 128) (or_shr (bit_and x 127 + 127) x 7 ∙ ap (λ (z : ℕ). bit_or ((z + 127) / 128) (x / 128)) (and_mask x 7))

  mark_most : mark_of x ≤ 128
  unfolding mark_of
  mark_most = and_le_r (bit_or (bit_and x 127 + 127) x) 128

  byte_mark : 128 - mark_of x ≡ cond (eqb x 0) 128 0
  unfolding mark_of
  byte_mark = go (ℕ_discrete x 0)
    where
      bit : (bit_or ((x % 128 + 127) / 128) (x / 128) % 2 ≡ 0 → ((x % 128 + 127) / 128 ≡ 0) × (x / 128 ≡ 0))
          × (bit_or ((x % 128 + 127) / 128) (x / 128) % 2 < 2)
      bit = top_bit ((x % 128 + 127) / 128) (x / 128) (omega arith) (omega arith)

      set : (x ≡ 0 → ⊥) → (n : ℕ) → n ≡ bit_or ((x % 128 + 127) / 128) (x / 128) % 2 → n ≡ 1
      set d zero e = let z = bit.0 (sym e) in absurd (d (omega (arith, z.0, z.1)))
      set d (suc zero) e = refl
      set d (suc (suc n)) e = absurd (omega (arith, bit.1))

      go : Dec (x ≡ 0) → 128 - mark_of x ≡ cond (eqb x 0) 128 0
      go (yes e) = rw e
      go (no d) = rw (ne_eqb x 0 d) (omega (arith, mark_is, set d _ refl))

-- the exclusive or of two numbers is 0 where they are equal, and there alone
xor_zero : (a b : ℕ) → eqb (bit_xor a b) 0 ≡ eqb a b
xor_zero a b = go (ℕ_discrete a b)
  where
    go : Dec (a ≡ b) → eqb (bit_xor a b) 0 ≡ eqb a b
    go (yes e) = rw (e, xor_self b, eq-eqb b b refl)
    go (no d) = rw (ne_eqb a b d) (ne_eqb (bit_xor a b) 0 (λ z. d (omega (arith, xor_add_and a b, and_le_l a b, and_le_r a b))))

-- ---- a number of four bits

one : Bool → ℕ
one b = cond b 1 0

marked-one : (b : Bool) → cond b 128 0 ≡ 128 * one b
unfolding one
marked-one true = refl
marked-one false = refl

where_one : (b : Bool) (s : ℕ) → bit_where b s ≡ one b * 2 ^ s
unfolding one
where_one true s = omega arith
where_one false s = omega arith

one-small : (b : Bool) → one b < 2
unfolding one
one-small true = omega arith
one-small false = omega arith

one-tells : (b : Bool) → eqb (one b) 1 ≡ b
unfolding one
one-tells true = refl
one-tells false = refl

four_bits : (a b c d : ℕ) → a < 2 → b < 2 → c < 2 → d < 2 → let n = a + (b * 2 + (c * 4 + d * 8)) in
    (n % 2 ≡ a) × (n / 2 % 2 ≡ b) × (n / 4 % 2 ≡ c) × (n / 8 % 2 ≡ d)
four_bits a b c d la lb lc ld = (omega arith, omega arith, omega arith, omega arith)

spread_bits : (a b c d : ℕ) → a < 2 → b < 2 → c < 2 → d < 2 → spread (a + (b * 2 + (c * 4 + d * 8))) ≡ bytes (128 * d) (128 * c) (128 * b) (128 * a)
unfolding spread
spread_bits a b c d la lb lc ld =
    let k = four_bits a b c d la lb lc ld in
    sum _ _ _ _ k.0 k.1 k.2 k.3
  where
    sum : (p q r s : ℕ) → p ≡ a → q ≡ b → r ≡ c → s ≡ d → p * 2 ^ 7 + (q * 2 ^ 15 + (r * 2 ^ 23 + s * 2 ^ 31)) ≡ bytes (128 * d) (128 * c) (128 * b) (128 * a)
    sum p q r s e f g h = rw (e, f, g, h) (omega arith)

-- ---- the tags of a word, all at once

tags_of : (bit tag : ℕ → ℕ) (gap rest : ℕ) → Within bit 2 → Within tag 256 → gap < 16
    → built bit tag gap rest / 256 % 4294967296 ≡ bytes (tag 3) (tag 2) (tag 1) (tag 0)
tags_of bit tag gap rest bits tags small = omega (arith, bits, tags)

module _ (w tag : ℕ) (low : tag < 256) where
  -- the tags that stand there, and how each differs
  own : ℕ → ℕ
  own s = w / 2 ^ (8 + 8 * s) % 256

  own-small : (s : ℕ) → own s < 256
  unfolding own
  own-small s = omega arith

  unlike : ℕ → ℕ
  unlike s = bit_xor (own s) tag

  unlike_small : (s : ℕ) → unlike s < 256
  unfolding unlike
  unlike_small s = xor_lt 8 (own s) tag (own-small s) low

  tags_read : w / 256 % 4294967296 ≡ bytes (own 3) (own 2) (own 1) (own 0)
  unfolding own tag_at
  tags_read =
      ap (λ (v : ℕ). v / 256 % 4294967296) (fields w)
      ∙ tags_of (bit_at w) (tag_at w) (gap_at w) (rest_at w) (bits_small w) (tags_small w) (gap-small w)

  all_unlike : bit_xor (w / 256 % 4294967296) (tag * 16843009) ≡ bytes (unlike 3) (unlike 2) (unlike 1) (unlike 0)
  unfolding unlike
  all_unlike =
      let same : tag * 16843009 ≡ bytes tag tag tag tag = omega arith in
      rw (tags_read, same) (by_bytes bit_xor (xor_block 8) (own 3) (own 2) (own 1) (own 0) tag tag tag tag (own-small 2) (own-small 1) (own-small 0) low low low)

  -- the marks: byte by byte
  summed : ℕ → ℕ
  summed s = bit_and (unlike s) 127 + 127

  summed_small : (s : ℕ) → summed s < 256
  unfolding summed
  summed_small s = omega (arith, and_le_r (unlike s) 127)

  either : ℕ → ℕ
  either s = bit_or (summed s) (unlike s)

  either-small : (s : ℕ) → either s < 256
  unfolding either
  either-small s = or_lt 8 (summed s) (unlike s) (summed_small s) (unlike_small s)

  abbrev x : ℕ
  x = bytes (unlike 3) (unlike 2) (unlike 1) (unlike 0)

  all_summed : bit_and x 2139062143 + 2139062143 ≡ bytes (summed 3) (summed 2) (summed 1) (summed 0)
  unfolding summed
  all_summed =
      let cut : bit_and x 2139062143 ≡ bytes (bit_and (unlike 3) 127) (bit_and (unlike 2) 127) (bit_and (unlike 1) 127) (bit_and (unlike 0) 127) =
      by_bytes bit_and (and_block 8) (unlike 3) (unlike 2) (unlike 1) (unlike 0) 127 127 127 127 (unlike_small 2) (unlike_small 1) (unlike_small 0)
      (omega arith) (omega arith) (omega arith) in
      omega (arith, cut)

  all_either : bit_or (bit_and x 2139062143 + 2139062143) x ≡ bytes (either 3) (either 2) (either 1) (either 0)
  unfolding either
  all_either =
      rw all_summed (by_bytes bit_or (or_block 8) (summed 3) (summed 2) (summed 1) (summed 0) (unlike 3) (unlike 2) (unlike 1) (unlike 0) (summed_small 2)
      (summed_small 1) (summed_small 0) (unlike_small 2) (unlike_small 1) (unlike_small 0))

  all_marks : bit_and (bit_or (bit_and x 2139062143 + 2139062143) x) 2155905152
      ≡ bytes (mark_of (unlike 3)) (mark_of (unlike 2)) (mark_of (unlike 1)) (mark_of (unlike 0))
  unfolding either summed mark_of
  all_marks =
      rw all_either (by_bytes bit_and (and_block 8) (either 3) (either 2) (either 1) (either 0) 128 128 128 128 (either-small 2) (either-small 1)
      (either-small 0) (omega arith) (omega arith) (omega arith))

  -- where a slot's tag fits, its byte is marked
  abbrev fits : ℕ → Bool
  fits s = eqb (own s) tag

  mark-fits : (s : ℕ) → 128 - mark_of (unlike s) ≡ cond (fits s) 128 0
  unfolding unlike
  mark-fits s = byte_mark (unlike s) (unlike_small s) ∙ ap (λ (b : Bool). cond b 128 0) (xor_zero (own s) tag)

  fitting_sum : fitting w tag ≡ one (fits 0) + (one (fits 1) * 2 + (one (fits 2) * 4 + one (fits 3) * 8))
  unfolding fitting own
  fitting_sum = rw (where_one (fits 0) 0, where_one (fits 1) 1, where_one (fits 2) 2, where_one (fits 3) 3) (omega arith)

  spread-fits : spread (fitting w tag) ≡ bytes (128 * one (fits 3)) (128 * one (fits 2)) (128 * one (fits 1)) (128 * one (fits 0))
  spread-fits =
      rw fitting_sum (spread_bits (one (fits 0)) (one (fits 1)) (one (fits 2)) (one (fits 3)) (one-small (fits 0)) (one-small (fits 1)) (one-small (fits 2))
      (one-small (fits 3)))

  -- the slots that are named
  pub fitting-small : fitting w tag < 16
  fitting-small = omega (arith, fitting_sum, one-small (fits 0), one-small (fits 1), one-small (fits 2), one-small (fits 3))

  pub fitting_names : (s : ℕ) → s < 4 → eqb (fitting w tag / 2 ^ s % 2) 1 ≡ eqb (w / 2 ^ (8 + 8 * s) % 256) tag
  unfolding own
  fitting_names =
      let k = four_bits (one (fits 0)) (one (fits 1)) (one (fits 2)) (one (fits 3)) (one-small (fits 0)) (one-small (fits 1)) (one-small (fits 2))
      (one-small (fits 3)) in
      rw fitting_sum
      (four (λ s. eqb ((one (fits 0) + (one (fits 1) * 2 + (one (fits 2) * 4 + one (fits 3) * 8))) / 2 ^ s % 2) 1 ≡ eqb (w / 2 ^ (8 + 8 * s) % 256) tag)
      (bit 0 ((one (fits 0) + (one (fits 1) * 2 + (one (fits 2) * 4 + one (fits 3) * 8))) / 1 % 2) (omega (arith, k.0)))
      (bit 1 _ k.1) (bit 2 _ k.2) (bit 3 _ k.3))
    where
      bit : (s n : ℕ) → n ≡ one (fits s) → eqb n 1 ≡ eqb (w / 2 ^ (8 + 8 * s) % 256) tag
      bit s n e = rw e (one-tells (fits s))

  -- the numbers that the code computes with
  abbrev pub unlike_word : ℕ
  unlike_word = bit_xor (w / 256 % 4294967296) (tag * 16843009)

  abbrev pub tested_word : ℕ
  tested_word = bit_or (bit_and unlike_word 2139062143 + 2139062143) unlike_word

  pub sum_fits : bit_and unlike_word 2139062143 + 2139062143 < 18446744073709551616
  sum_fits = omega (arith, and_le_r unlike_word 2139062143)

  pub marks_most : bit_and tested_word 2155905152 ≤ 2155905152
  marks_most = and_le_r tested_word 2155905152

  pub marks_fit : 2155905152 - bit_and tested_word 2155905152 ≡ spread (fitting w tag)
  marks_fit =
      rw (
        all_unlike,
        all_marks,
        spread-fits,
        ← (marked-one (fits 0)),
        ← (marked-one (fits 1)),
        ← (marked-one (fits 2)),
        ← (marked-one (fits 3)),
        ← (mark-fits 0),
        ← (mark-fits 1),
        ← (mark-fits 2),
        ← (mark-fits 3),
      )
      (omega (
        arith,
        mark_most (unlike 0) (unlike_small 0),
        mark_most (unlike 1) (unlike_small 1),
        mark_most (unlike 2) (unlike_small 2),
        mark_most (unlike 3) (unlike_small 3),
      ))

-- ---- by the kind of table

pub all-readable : (tags : Bool) (w tag : ℕ) → tags ≡ false → 2155905152 ≡ spread (readable tags w tag)
unfolding spread readable
all-readable tags w tag e = rw e

pub fitting-readable : (tags : Bool) (w tag : ℕ) → tags ≡ true → readable tags w tag ≡ fitting w tag
unfolding readable
fitting-readable tags w tag e = rw e

-- ---- marks, gone through from the lowest on

-- by computed tests of all sixteen numbers of four bits
pub rest-spread : (n : ℕ) → n < 16 → (rest_of (spread n) ≡ spread (bit_and n (n - 1))) × (bit_and n (n - 1) < 16)
unfolding rest_of spread
rest-spread n l = (
  eqb-true _ _ (below_all 16 (λ m. eqb (rest_of (spread m)) (spread (bit_and m (m - 1)))) refl n l),
  omega (arith, and_le_l n (n - 1)),
)

pub some_left : (n : ℕ) → n < 16 → (spread n ≡ 0 → ⊥) → (n ≡ 0 → ⊥) × (lowest_mark (spread n) < 4)
unfolding spread lowest_mark count_trailing_zeros
some_left n l some = (
  λ e. some (rw e),
  ltb-true _ _ (passed (eqb (spread n) 0) refl (below_all 16 (λ m. cond (eqb (spread m) 0) true (ltb (lowest_mark (spread m)) 4)) refl n l)),
)
  where
    passed : (b : Bool) → eqb (spread n) 0 ≡ b → cond b true (ltb (lowest_mark (spread n)) 4) ≡ true → ltb (lowest_mark (spread n)) 4 ≡ true
    passed true q e = absurd (some (eqb-true _ _ q))
    passed false q e = e

pub none_left : (n : ℕ) → n < 16 → spread n ≡ 0 → n ≡ 0
unfolding spread
none_left n l e = eqb-true _ _ (passed (eqb (spread n) 0) refl (below_all 16 (λ m. cond (eqb (spread m) 0) (eqb m 0) true) refl n l))
  where
    passed : (b : Bool) → eqb (spread n) 0 ≡ b → cond b (eqb n 0) true ≡ true → eqb n 0 ≡ true
    passed true q r = r
    passed false q r = never (eq-eqb (spread n) 0 e) q

-- they become fewer
pub rest_less : (marks : ℕ) → 0 < marks → rest_of marks < marks
unfolding rest_of
rest_less marks l = omega (arith, and_le_r marks (marks - 1))
