-- A number by its fields: bits 0 to 3, four tags of eight bits from bit 8 on, and what lies between and above. What stays where one slot's bit
-- and tag change. Nothing here speaks of tables.
-- Assumes nothing.
use Prim.Native.Nat.{ℕ, zero, suc, ◌+◌, ◌-◌, ◌*◌, ◌/◌, ◌%◌, ◌^◌, ◌<◌}
use mathlib.Core.Path.{◌≡◌, refl, ap, ◌∙◌}
use mathlib.Core.Bool.{Bool, true, false, cond}
use native.Mathlib.Omega.{arith}
use lib.Dec.{eqb}
use borrow.Author.Tests.{eq-eqb, ne_eqb}
use Rattle.rules.specs.Words.{mark}

-- what holds of each of the four slots
pub four : (P : ℕ → Type 0) → P 0 → P 1 → P 2 → P 3 → (z : ℕ) → z < 4 → P z
four P a b c d zero l = a
four P a b c d (suc zero) l = b
four P a b c d (suc (suc zero)) l = c
four P a b c d (suc (suc (suc zero))) l = d
four P a b c d (suc (suc (suc (suc z)))) l = absurd (omega arith)

abbrev pub built : (ℕ → ℕ) → (ℕ → ℕ) → ℕ → ℕ → ℕ
built bit tag gap rest =
    bit 0 + 2 * bit 1 + 4 * bit 2 + 8 * bit 3 + 16 * gap + 256 * tag 0 + 65536 * tag 1 + 16777216 * tag 2 + 4294967296 * tag 3 + 1099511627776 * rest

abbrev pub Within : (ℕ → ℕ) → ℕ → Type 0
Within f n = (f 0 < n) × (f 1 < n) × (f 2 < n) × (f 3 < n)

module _ (bit tag : ℕ → ℕ) (gap rest : ℕ) (bits : Within bit 2) where
  pub read-bit : (z : ℕ) → z < 4 → built bit tag gap rest / 2 ^ z % 2 ≡ bit z
  read-bit =
      four (λ z. built bit tag gap rest / 2 ^ z % 2 ≡ bit z) (omega (arith, bits)) (omega (arith, bits)) (omega (arith, bits)) (omega (arith, bits))

  pub read_tag : gap < 16 → Within tag 256 → (z : ℕ) → z < 4 → built bit tag gap rest / 2 ^ (8 + 8 * z) % 256 ≡ tag z
  read_tag small tags =
      four (λ z. built bit tag gap rest / 2 ^ (8 + 8 * z) % 256 ≡ tag z) (omega (arith, bits, tags)) (omega (arith, bits, tags))
      (omega (arith, bits, tags)) (omega (arith, bits, tags))

  pub read-gap : gap < 16 → built bit tag gap rest / 16 % 16 ≡ gap
  read-gap small = omega (arith, bits)

  pub read-rest : gap < 16 → Within tag 256 → built bit tag gap rest / 1099511627776 ≡ rest
  read-rest small tags = omega (arith, bits, tags)

joined : (v a b c d e f g h i r0 r1 r2 r3 r4 r5 r6 r7 r8 : ℕ) → v ≡ 2 * a + r0 → a ≡ 2 * b + r1 → b ≡ 2 * c + r2 → c ≡ 2 * d + r3 → d ≡ 16 * e + r4
    → e ≡ 256 * f + r5 → f ≡ 256 * g + r6 → g ≡ 256 * h + r7 → h ≡ 256 * i + r8
    → v ≡ r0 + 2 * r1 + 4 * r2 + 8 * r3 + 16 * r4 + 256 * r5 + 65536 * r6 + 16777216 * r7 + 4294967296 * r8 + 1099511627776 * i
joined v a b c d e f g h i r0 r1 r2 r3 r4 r5 r6 r7 r8 p0 p1 p2 p3 p4 p5 p6 p7 p8 = omega arith

module _ (v : ℕ) where
  unfoldable pub bit_at : ℕ → ℕ
  bit_at z = v / 2 ^ z % 2

  unfoldable pub tag_at : ℕ → ℕ
  tag_at z = v / 2 ^ (8 + 8 * z) % 256

  unfoldable pub gap_at : ℕ
  gap_at = v / 16 % 16

  unfoldable pub rest_at : ℕ
  rest_at = v / 1099511627776

  pub fields : v ≡ built bit_at tag_at gap_at rest_at
  unfolding bit_at tag_at gap_at rest_at
  fields =
      joined v (v / 2) (v / 4) (v / 8) (v / 16) (v / 256) (v / 65536) (v / 16777216) (v / 4294967296) (v / 1099511627776) _ _ _ _ _ _ _ _ _
      (omega arith) (omega arith) (omega arith) (omega arith) (omega arith) (omega arith) (omega arith) (omega arith) (omega arith)

  pub bits_small : Within bit_at 2
  unfolding bit_at
  bits_small = (omega arith, omega arith, omega arith, omega arith)

  pub tags_small : Within tag_at 256
  unfolding tag_at
  tags_small = (omega arith, omega arith, omega arith, omega arith)

  pub gap-small : gap_at < 16
  unfolding gap_at
  gap-small = omega arith

  -- bits 0 to 3 are those of the number modulo 16
  pub low_bit : (z : ℕ) → z < 4 → v % 16 / 2 ^ z % 2 ≡ bit_at z
  unfolding bit_at
  low_bit = four (λ z. v % 16 / 2 ^ z % 2 ≡ v / 2 ^ z % 2) (omega arith) (omega arith) (omega arith) (omega arith)

-- a number below 16 has its four bits only
pub low_fields : (v : ℕ) → v < 16 → v ≡ bit_at v 0 + 2 * bit_at v 1 + 4 * bit_at v 2 + 8 * bit_at v 3
unfolding gap_at tag_at rest_at
low_fields v l =
    let a : gap_at v ≡ 0 = omega arith in
    let b : tag_at v 0 ≡ 0 = omega arith in
    let c : tag_at v 1 ≡ 0 = omega arith in
    let d : tag_at v 2 ≡ 0 = omega arith in
    let e : tag_at v 3 ≡ 0 = omega arith in
    let f : rest_at v ≡ 0 = omega arith in
    only v (bit_at v 0) (bit_at v 1) (bit_at v 2) (bit_at v 3) (gap_at v) (tag_at v 0) (tag_at v 1) (tag_at v 2) (tag_at v 3) (rest_at v) (fields v) a b c d e f
  where
    only : (v p q r s g h i j k m : ℕ) → v ≡ p + 2 * q + 4 * r + 8 * s + 16 * g + 256 * h + 65536 * i + 16777216 * j + 4294967296 * k + 1099511627776 * m
        → g ≡ 0 → h ≡ 0 → i ≡ 0 → j ≡ 0 → k ≡ 0 → m ≡ 0 → v ≡ p + 2 * q + 4 * r + 8 * s
    only v p q r s g h i j k m e a b c d f n = omega arith

pub bit-small : (v z : ℕ) → bit_at v z < 2
unfolding bit_at
bit-small v z = omega arith

-- the same fields make the same number
pub built_same : (bit bit' tag tag' : ℕ → ℕ) → ((z : ℕ) → z < 4 → bit z ≡ bit' z) → ((z : ℕ) → z < 4 → tag z ≡ tag' z) → {gap gap' rest rest' : ℕ}
    → gap ≡ gap' → rest ≡ rest' → built bit tag gap rest ≡ built bit' tag' gap' rest'
built_same bit bit' tag tag' b t g r =
    rw (
      b 0 (omega arith),
      b 1 (omega arith),
      b 2 (omega arith),
      b 3 (omega arith),
      t 0 (omega arith),
      t 1 (omega arith),
      t 2 (omega arith),
      t 3 (omega arith),
      g,
      r,
    )

-- ---- one field changed

abbrev pub but : (ℕ → ℕ) → ℕ → ℕ → ℕ → ℕ
but f s n z = cond (eqb z s) n (f z)

pub but_here : (f : ℕ → ℕ) (s n : ℕ) → but f s n s ≡ n
but_here f s n = rw (eq-eqb s s refl)

pub but_other : (f : ℕ → ℕ) (s n z : ℕ) → (z ≡ s → ⊥) → but f s n z ≡ f z
but_other f s n z d = rw (ne_eqb z s d)

pub but_small : (f : ℕ → ℕ) (s n m : ℕ) → Within f m → n < m → Within (but f s n) m
but_small f s n m (a, b, c, d) l = (go 0 a, go 1 b, go 2 c, go 3 d)
  where
    go : (z : ℕ) → f z < m → but f s n z < m
    go z k = by (eqb z s)
      where
        by : (e : Bool) → cond e n (f z) < m
        by true = l
        by false = k

-- the number without the bit of slot s: its tags stay
pub bit_cut : (v s : ℕ) → s < 4 → v - bit_at v s * 2 ^ s ≡ built (but (bit_at v) s 0) (tag_at v) (gap_at v) (rest_at v)
bit_cut v =
    four (λ s. v - bit_at v s * 2 ^ s ≡ built (but (bit_at v) s 0) (tag_at v) (gap_at v) (rest_at v)) (omega (arith, fields v)) (omega (arith, fields v))
    (omega (arith, fields v)) (omega (arith, fields v))

pub tag_stays : (v s : ℕ) → s < 4 → (v - v / 2 ^ s % 2 * 2 ^ s) / 2 ^ (8 + 8 * s) % 256 ≡ v / 2 ^ (8 + 8 * s) % 256
unfolding bit_at tag_at
tag_stays v s low =
    ap (λ (n : ℕ). n / 2 ^ (8 + 8 * s) % 256) (bit_cut v s low)
    ∙ read_tag (but (bit_at v) s 0) (tag_at v) (gap_at v) (rest_at v) (but_small (bit_at v) s 0 2 (bits_small v) (omega arith)) (gap-small v) (tags_small v) s low

-- the number without the bit and the tag of slot s
unfoldable pub without : ℕ → ℕ → ℕ
without v s = v - mark s (bit_at v s) (tag_at v s)

module _ (v : ℕ) where
  pub without_built : (s : ℕ) → s < 4 → without v s ≡ built (but (bit_at v) s 0) (but (tag_at v) s 0) (gap_at v) (rest_at v)
  unfolding without
  without_built =
      four (λ s. without v s ≡ built (but (bit_at v) s 0) (but (tag_at v) s 0) (gap_at v) (rest_at v))
      (omega (arith, fields v)) (omega (arith, fields v)) (omega (arith, fields v)) (omega (arith, fields v))

  pub without_rest : (s : ℕ) → s < 4 → without v s + mark s (bit_at v s) (tag_at v s) ≡ v
  without_rest =
      four (λ s. without v s + mark s (bit_at v s) (tag_at v s) ≡ v)
      (omega (arith, fields v, without_built 0 (omega arith))) (omega (arith, fields v, without_built 1 (omega arith)))
      (omega (arith, fields v, without_built 2 (omega arith))) (omega (arith, fields v, without_built 3 (omega arith)))

  -- and with others in their place
  pub with_built : (tag s : ℕ) → s < 4 → without v s + mark s 1 tag ≡ built (but (bit_at v) s 1) (but (tag_at v) s tag) (gap_at v) (rest_at v)
  with_built tag =
      four (λ s. without v s + mark s 1 tag ≡ built (but (bit_at v) s 1) (but (tag_at v) s tag) (gap_at v) (rest_at v))
      (omega (arith, without_built 0 (omega arith))) (omega (arith, without_built 1 (omega arith)))
      (omega (arith, without_built 2 (omega arith))) (omega (arith, without_built 3 (omega arith)))

  -- below 16 it stays there
  pub without_low : (s : ℕ) → v < 16 → without v s < 16
  unfolding without
  without_low s l = omega arith

  pub with_low : v < 16 → (s : ℕ) → s < 4 → without v s + mark s 1 0 < 16
  with_low l =
      four (λ s. without v s + mark s 1 0 < 16)
      (omega (arith, with_built 0 0 (omega arith), fields v, bits_small v)) (omega (arith, with_built 0 1 (omega arith), fields v, bits_small v))
      (omega (arith, with_built 0 2 (omega arith), fields v, bits_small v)) (omega (arith, with_built 0 3 (omega arith), fields v, bits_small v))

  -- bits 4 to 7 and those from 40 on stay
  pub keeps_built : (s bit tag : ℕ) → s < 4 → bit < 2 → tag < 256
      → let u = built (but (bit_at v) s bit) (but (tag_at v) s tag) (gap_at v) (rest_at v) in (u / 16 % 16 ≡ v / 16 % 16) × (u / 2 ^ 40 ≡ v / 2 ^ 40)
  unfolding gap_at rest_at
  keeps_built s bit tag sl bl tl =
      let bits = but_small (bit_at v) s bit 2 (bits_small v) bl in (
        read-gap (but (bit_at v) s bit) (but (tag_at v) s tag) (gap_at v) (rest_at v) bits (gap-small v),
        read-rest (but (bit_at v) s bit) (but (tag_at v) s tag) (gap_at v) (rest_at v) bits (gap-small v) (but_small (tag_at v) s tag 256 (tags_small v) tl),
      )

  -- it fits a word of 64 bits still
  pub with_fits : (tag s : ℕ) → s < 4 → v < 2 ^ 64 → tag < 256 → without v s + mark s 1 tag < 2 ^ 64
  with_fits tag s sl l tl = rw (with_built tag s sl) (let k = (keeps_built s 1 tag sl (omega arith) tl).1 in omega (arith, k))

  -- its bits and tags
  module _ (s : ℕ) (sl : s < 4) (bit tag : ℕ) (bl : bit < 2) (tl : tag < 256) where
    abbrev changed : ℕ
    changed = built (but (bit_at v) s bit) (but (tag_at v) s tag) (gap_at v) (rest_at v)

    bits : Within (but (bit_at v) s bit) 2
    bits = but_small (bit_at v) s bit 2 (bits_small v) bl

    pub changed_bit : (z : ℕ) → z < 4 → bit_at changed z ≡ but (bit_at v) s bit z
    unfolding bit_at
    changed_bit z zl = read-bit (but (bit_at v) s bit) (but (tag_at v) s tag) (gap_at v) (rest_at v) bits z zl

    pub changed_tag : (z : ℕ) → z < 4 → tag_at changed z ≡ but (tag_at v) s tag z
    unfolding tag_at
    changed_tag z zl =
        read_tag (but (bit_at v) s bit) (but (tag_at v) s tag) (gap_at v) (rest_at v) bits (gap-small v) (but_small (tag_at v) s tag 256 (tags_small v) tl) z zl
