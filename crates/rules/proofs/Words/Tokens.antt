-- Token words, in either form: with `Fields` and `Forms` this is all that knows what the form means. What the two token stores do: show sets its slot's
-- bit and tag, hide clears them, and all other bits stay. And a word that is what should stand in its bucket stays so where a slot is shown with
-- its key, where a slot is hidden, and where the keys of free slots change.
-- Assumes nothing.
use Prim.Native.Nat.{ℕ, zero, suc, ◌+◌, ◌*◌, ◌/◌, ◌%◌, ◌^◌, ◌≤◌, ◌<◌}
use mathlib.Core.Path.{◌≡◌, refl, sym, ap, ◌∙◌}
use mathlib.Core.Bool.{Bool, true, false, cond}
use mathlib.Core.List.{map}
use mathlib.Core.Logic.Iff
use native.Mathlib.Omega.{arith}
use native.Mathlib.Decide.{ℕ_discrete}
use lib.Dec.{eqb}
use lib.Pow.{shr_le}
use borrow.Author.Tests.{eq-eqb, ne_eqb}
use Rattle.rules.specs.Choice.{all, from}
use Rattle.rules.specs.Forms.{tagged, mixed, tag_of}
use Rattle.rules.specs.Words.{token_number, is_taken, word_read, tag_in, mark, show, hide, mark_meant, meant}
use Rattle.rules.specs.Demands.{with_state}
use Rattle.rules.specs.declared.State.{State}
use Rattle.rules.specs.declared.Header.{Header}
use Rattle.rules.proofs.Basics.Lists.{in_from}
use Rattle.rules.proofs.Basics.Tests.{tells_all}
use Rattle.rules.proofs.Words.Fields.{four, built, built_same, Within, fields, bit-small, read-bit}
use Rattle.rules.proofs.Words.Fields.{read_tag, bit_at, tag_at, gap_at, rest_at, low_bit, low_fields}
use Rattle.rules.proofs.Words.Fields.{but, but_here, but_other, without, without_built, without_rest, with_built, without_low, with_low}
use Rattle.rules.proofs.Words.Fields.{keeps_built, with_fits, changed_bit}
use Rattle.rules.proofs.Words.Forms.{tag_untagged}

-- ---- the four bits

pub number_low : (w : ℕ) → token_number w < 16
unfolding token_number
number_low w = omega arith

number_again : (w : ℕ) → token_number (token_number w) ≡ token_number w
unfolding token_number
number_again w = omega arith

-- a computed test of all numbers below n, and what one of all sixteen token numbers says of a word's
abbrev pub below : ℕ → (ℕ → Bool) → Bool
below n p = all (map p (from 0 n))

pub below_all : (n : ℕ) (p : ℕ → Bool) → below n p ≡ true → (i : ℕ) → i < n → p i ≡ true
below_all n p e i l = (tells_all p _ (λ x. Iff.rfl) (from 0 n)).0 e i (in_from 0 n i (omega arith) (omega arith))

pub number_tested : (p : ℕ → Bool) → below 16 p ≡ true → (w : ℕ) → p (token_number w) ≡ true
number_tested p e w = below_all 16 p e (token_number w) (number_low w)

-- the token word v is w with the bit of slot s changed to b
pub record Bit (h : Header) (w v s : ℕ) (b : Bool) : Type 0 where
  pub here : is_taken h v s ≡ b
  pub other : (z : ℕ) → z < 4 → (z ≡ s → ⊥) → is_taken h v z ≡ is_taken h w z

module _ (h : Header) where
  -- a word's bits are those of its token number
  pub taken-number : (w z : ℕ) → is_taken h (token_number w) z ≡ is_taken h w z
  unfolding is_taken
  taken-number w z = rw (number_again w)

  pub zero_free : (s : ℕ) → is_taken h 0 s ≡ false
  unfolding is_taken token_number
  zero_free s = ne_eqb (0 / 2 ^ s % 2) 1 (λ e. omega (arith, shr_le 0 s))

  pub taken-bit : (w z : ℕ) → z < 4 → is_taken h w z ≡ eqb (bit_at w z) 1
  unfolding is_taken token_number
  taken-bit w z l = rw (low_bit w z l)

  -- ---- what is read of a word

  -- by the form
  by_form : (P : ℕ → ℕ → Type 0) → ((w : ℕ) → P w w) → ((w : ℕ) → P w (token_number w)) → (w : ℕ) → P w (word_read h w)
  unfolding word_read
  by_form P whole low w = go (tagged h)
    where
      go : (b : Bool) → P w (cond b w (token_number w))
      go true = whole w
      go false = low w

  pub read_most : (w : ℕ) → word_read h w ≤ w
  unfolding token_number
  read_most = by_form (λ w v. v ≤ w) (λ w. omega arith) (λ w. omega arith)

  read_bits : (w z : ℕ) → z < 4 → bit_at (word_read h w) z ≡ bit_at w z
  unfolding token_number bit_at
  read_bits w z l = by_form (λ w v. bit_at v z ≡ bit_at w z) (λ w. refl) (λ w. low_bit w z l) w

  tag_read : (w s : ℕ) → tag_in h w s ≡ tag_at (word_read h w) s
  unfolding tag_in tag_at
  tag_read w s = refl

  pub tag_in_small : (w s : ℕ) → tag_in h w s < 256
  unfolding tag_in
  tag_in_small w s = omega arith

  pub tag_small : (key : ℕ) → tag_of h key < 256
  unfolding tag_of
  tag_small key = go (tagged h) _ (omega arith)
    where
      go : (b : Bool) (n : ℕ) → n < 256 → cond b n 0 < 256
      go true n l = l
      go false n l = omega arith

  -- ---- the two stores

  pub hide_is : (w s : ℕ) → s < 4 → hide h w s ≡ without (word_read h w) s
  unfolding hide without token_number
  hide_is w s l = rw (tag_read w s, low_bit w s l, ← (read_bits w s l))

  pub show_is : (w s key : ℕ) → s < 4 → show h w s key ≡ without (word_read h w) s + mark s 1 (tag_of h key)
  unfolding show
  show_is w s key l = rw (hide_is w s l)

  -- what a store writes fits a word of 64 bits, and what is taken away is in the word
  pub hide-parts : (w s : ℕ) → s < 4 → mark s (token_number w / 2 ^ s % 2) (tag_in h w s) ≤ word_read h w
  unfolding token_number
  hide-parts w s l = rw (tag_read w s, low_bit w s l, ← (read_bits w s l)) (omega (arith, without_rest (word_read h w) s l))

  pub shown-fits : (w s tag : ℕ) → s < 4 → w < 2 ^ 64 → tag < 256 → hide h w s + mark s 1 tag < 2 ^ 64
  shown-fits w s tag sl l tl = rw (hide_is w s sl) (with_fits (word_read h w) tag s sl (omega (arith, read_most w)) tl)

  pub hide_built : (w s : ℕ) → s < 4
      → hide h w s ≡ built (but (bit_at (word_read h w)) s 0) (but (tag_at (word_read h w)) s 0) (gap_at (word_read h w)) (rest_at (word_read h w))
  hide_built w s l = hide_is w s l ∙ without_built (word_read h w) s l

  pub show_built : (w s key : ℕ) → s < 4
      → show h w s key ≡ built (but (bit_at (word_read h w)) s 1) (but (tag_at (word_read h w)) s (tag_of h key)) (gap_at (word_read h w)) (rest_at (word_read h w))
  show_built w s key l = show_is w s key l ∙ with_built (word_read h w) (tag_of h key) s l

  -- what they do to the bits
  stored_bit : (w v s : ℕ) → s < 4 → (bit : ℕ) → bit < 2 → ((z : ℕ) → z < 4 → bit_at v z ≡ but (bit_at (word_read h w)) s bit z) → Bit h w v s (eqb bit 1)
  stored_bit w v s sl bit bl at = record {
    here = rw (taken-bit v s sl, at s sl, but_here (bit_at (word_read h w)) s bit);
    other = λ z zl d. rw (taken-bit v z zl, taken-bit w z zl, at z zl, but_other (bit_at (word_read h w)) s bit z d, read_bits w z zl);
  }

  pub hide-bit : (w s : ℕ) → s < 4 → Bit h w (hide h w s) s false
  hide-bit w s sl =
      stored_bit w (hide h w s) s sl 0 (omega arith)
      (λ z zl. rw (hide_built w s sl) (changed_bit (word_read h w) s sl 0 0 (omega arith) (omega arith) z zl))

  pub show-bit : (w s key : ℕ) → s < 4 → Bit h w (show h w s key) s true
  show-bit w s key sl =
      stored_bit w (show h w s key) s sl 1 (omega arith)
      (λ z zl. rw (show_built w s key sl) (changed_bit (word_read h w) s sl 1 (tag_of h key) (omega arith) (tag_small key) z zl))

-- ---- what a store may write

-- "keeping bits they do not change": in form 2 bits 4 to 7 stay, and those from 40 on
abbrev pub Kept : Header → ℕ → ℕ → Type 0
Kept h w v = tagged h ≡ true → (v / 16 % 16 ≡ w / 16 % 16) × (v / 2 ^ 40 ≡ w / 2 ^ 40)

-- over the word w; in form 1 "a token store is always below 16"
pub record Stored (h : Header) (w v : ℕ) : Type 0 where
  pub low : tagged h ≡ false → v < 16
  pub kept : Kept h w v

module _ (h : Header) where
  pub whole-read : tagged h ≡ true → (w : ℕ) → word_read h w ≡ w
  unfolding word_read
  whole-read e w = rw e

  pub low_read : tagged h ≡ false → (w : ℕ) → word_read h w ≡ token_number w
  unfolding word_read
  low_read e w = rw e

  pub no_tag_in : tagged h ≡ false → (w s : ℕ) → s < 4 → tag_in h w s ≡ 0
  unfolding tag_in token_number
  no_tag_in e w s l =
      rw (low_read e w)
      (four (λ s. w % 16 / 2 ^ (8 + 8 * s) % 256 ≡ 0) (omega arith) (omega arith) (omega arith) (omega arith) s l)

  -- where u is what an earlier store of the list left of w
  module _ (w u : ℕ) (before : Kept h w u) (s : ℕ) (low : s < 4) where
    after : (v bit tag : ℕ) → bit < 2 → tag < 256
        → v ≡ built (but (bit_at (word_read h u)) s bit) (but (tag_at (word_read h u)) s tag) (gap_at (word_read h u)) (rest_at (word_read h u)) → Kept h w v
    after v bit tag bl tl is e =
        let k = keeps_built (word_read h u) s bit tag low bl tl in
        let read : word_read h u ≡ u = whole-read e u in (
          ap (λ (n : ℕ). n / 16 % 16) is ∙ k.0 ∙ ap (λ (n : ℕ). n / 16 % 16) read ∙ (before e).0,
          ap (λ (n : ℕ). n / 2 ^ 40) is ∙ k.1 ∙ ap (λ (n : ℕ). n / 2 ^ 40) read ∙ (before e).1,
        )

    pub hide_stored : Stored h w (hide h u s)
    hide_stored = record {
      low = λ e. rw (hide_is h u s low, low_read e u) (without_low (token_number u) s (number_low u));
      kept = after (hide h u s) 0 0 (omega arith) (omega arith) (hide_built h u s low);
    }

    pub show_stored : (key : ℕ) → Stored h w (show h u s key)
    show_stored key = record {
      low = λ e. rw (show_is h u s key low, low_read e u, tag_untagged h e key) (with_low (token_number u) (number_low u) s low);
      kept = after (show h u s key) 1 (tag_of h key) (omega arith) (tag_small h key) (show_built h u s key low);
    }

-- ---- what should stand there

-- the word is what should stand in a bucket with those keys
abbrev pub Meant : Header → ℕ → (ℕ → ℕ) → Type 0
Meant h w keys = w ≡ meant h w keys

-- the keys `others` are `keys` with that of slot s changed to `key`
pub record Rekeyed (keys others : ℕ → ℕ) (s key : ℕ) : Type 0 where
  pub here : others s ≡ key
  pub other : (z : ℕ) → z < 4 → (z ≡ s → ⊥) → others z ≡ keys z

-- where w is what should stand there, v is once slot s has that key
abbrev pub Follows : Header → ℕ → ℕ → (ℕ → ℕ) → (ℕ → ℕ) → ℕ → ℕ → Type 0
Follows h w v keys others s key = Meant h w keys → Rekeyed keys others s key → Meant h v others

module _ (h : Header) where
  -- where all slots are free it is 0
  pub meant_of_free : (w : ℕ) (keys : ℕ → ℕ) → ((z : ℕ) → z < 4 → is_taken h w z ≡ false) → meant h w keys ≡ 0
  unfolding meant mark_meant
  meant_of_free w keys f = rw (f 0 (omega arith), f 1 (omega arith), f 2 (omega arith), f 3 (omega arith))

  pub zero_meant : (keys : ℕ → ℕ) → Meant h 0 keys
  zero_meant keys = sym (meant_of_free 0 keys (λ z l. zero_free h z))

  mark-none : (w : ℕ) (keys : ℕ → ℕ) (s : ℕ) → is_taken h w s ≡ false → mark_meant h w keys s ≡ 0
  unfolding mark_meant
  mark-none w keys s e = rw e

  mark-some : (w : ℕ) (keys : ℕ → ℕ) (s : ℕ) → is_taken h w s ≡ true → mark_meant h w keys s ≡ mark s 1 (tag_of h (keys s))
  unfolding mark_meant
  mark-some w keys s e = rw e

  mark-same : (v w : ℕ) (keys others : ℕ → ℕ) (z : ℕ) → is_taken h v z ≡ is_taken h w z → (is_taken h w z ≡ true → others z ≡ keys z)
      → mark_meant h v others z ≡ mark_meant h w keys z
  unfolding mark_meant
  mark-same v w keys others z bit same = rw bit (go (is_taken h w z) same)
    where
      go : (b : Bool) → (b ≡ true → others z ≡ keys z) → cond b (mark z 1 (tag_of h (others z))) 0 ≡ cond b (mark z 1 (tag_of h (keys z))) 0
      go true e = rw (e refl)
      go false e = refl

  -- all but one slot the same
  marks_changed : (v w : ℕ) (keys others : ℕ → ℕ) (s : ℕ) → s < 4 → ((z : ℕ) → z < 4 → (z ≡ s → ⊥) → mark_meant h v others z ≡ mark_meant h w keys z)
      → meant h v others + mark_meant h w keys s ≡ meant h w keys + mark_meant h v others s
  unfolding meant
  marks_changed v w keys others =
      four (λ s. ((z : ℕ) → z < 4 → (z ≡ s → ⊥) → mark_meant h v others z ≡ mark_meant h w keys z)
      → meant h v others + mark_meant h w keys s ≡ meant h w keys + mark_meant h v others s)
      (λ e. omega (arith, e 1 (omega arith) (λ d. omega arith), e 2 (omega arith) (λ d. omega arith), e 3 (omega arith) (λ d. omega arith)))
      (λ e. omega (arith, e 0 (omega arith) (λ d. omega arith), e 2 (omega arith) (λ d. omega arith), e 3 (omega arith) (λ d. omega arith)))
      (λ e. omega (arith, e 0 (omega arith) (λ d. omega arith), e 1 (omega arith) (λ d. omega arith), e 3 (omega arith) (λ d. omega arith)))
      (λ e. omega (arith, e 0 (omega arith) (λ d. omega arith), e 1 (omega arith) (λ d. omega arith), e 2 (omega arith) (λ d. omega arith)))

  module _ (w : ℕ) (keys : ℕ → ℕ) where
    -- the fields of what should stand there
    bit_of : ℕ → ℕ
    bit_of z = cond (is_taken h w z) 1 0

    field_of : ℕ → ℕ
    field_of z = cond (is_taken h w z) (tag_of h (keys z)) 0

    mark_is : (z : ℕ) → mark_meant h w keys z ≡ mark z (bit_of z) (field_of z)
    unfolding mark_meant bit_of field_of
    mark_is z = go (is_taken h w z)
      where
        go : (b : Bool) → cond b (mark z 1 (tag_of h (keys z))) 0 ≡ mark z (cond b 1 0) (cond b (tag_of h (keys z)) 0)
        go true = refl
        go false = omega arith

    bits_of : Within bit_of 2
    unfolding bit_of
    bits_of = (go 0, go 1, go 2, go 3)
      where
        go : (z : ℕ) → cond (is_taken h w z) 1 0 < 2
        go z = one (is_taken h w z)
          where
            one : (b : Bool) → cond b 1 0 < 2
            one true = omega arith
            one false = omega arith

    fields_of : Within field_of 256
    unfolding field_of
    fields_of = (go 0, go 1, go 2, go 3)
      where
        go : (z : ℕ) → cond (is_taken h w z) (tag_of h (keys z)) 0 < 256
        go z = one (is_taken h w z)
          where
            one : (b : Bool) → cond b (tag_of h (keys z)) 0 < 256
            one true = tag_small h (keys z)
            one false = omega arith

    meant_built : meant h w keys ≡ built bit_of field_of 0 0
    unfolding meant
    meant_built = omega (arith, mark_is 0, mark_is 1, mark_is 2, mark_is 3)

    -- where slots have no tags it is the four bits
    bit_of_lem : (z : ℕ) → z < 4 → bit_of z ≡ bit_at (token_number w) z
    unfolding bit_of is_taken bit_at
    bit_of_lem z l = go (token_number w / 2 ^ z % 2) (omega arith)
      where
        go : (n : ℕ) → n < 2 → cond (eqb n 1) 1 0 ≡ n
        go zero l = refl
        go (suc zero) l = refl
        go (suc (suc n)) l = absurd (omega arith)

    untagged : tagged h ≡ false → (z : ℕ) → field_of z ≡ 0
    unfolding field_of tag_of
    untagged e z = rw e (none (is_taken h w z))
      where
        none : (b : Bool) → ◌≡◌ {A = ℕ} (cond b 0 0) 0
        none true = refl
        none false = refl

    pub meant_untagged : tagged h ≡ false → meant h w keys ≡ token_number w
    meant_untagged q =
        only (untagged q 0) (untagged q 1) (untagged q 2) (untagged q 3) (bit_of_lem 0 (omega arith)) (bit_of_lem 1 (omega arith)) (bit_of_lem 2 (omega arith))
        (bit_of_lem 3 (omega arith))
      where
        only : field_of 0 ≡ 0 → field_of 1 ≡ 0 → field_of 2 ≡ 0 → field_of 3 ≡ 0 → bit_of 0 ≡ bit_at (token_number w) 0 → bit_of 1 ≡ bit_at (token_number w) 1
            → bit_of 2 ≡ bit_at (token_number w) 2 → bit_of 3 ≡ bit_at (token_number w) 3 → meant h w keys ≡ token_number w
        only e f g k a b c d = omega (arith, meant_built, low_fields (token_number w) (number_low w))

    -- bits 4 to 7 are 0, and so are those from 40 on; each slot has its bit, and its tag or 0
    pub meant_fields : (meant h w keys / 16 % 16 ≡ 0) × (meant h w keys / 2 ^ 40 ≡ 0)
    meant_fields = (omega (arith, meant_built, bits_of, fields_of), omega (arith, meant_built, bits_of, fields_of))

    pub meant_field : (z : ℕ) → z < 4 → tag_at (meant h w keys) z ≡ cond (is_taken h w z) (tag_of h (keys z)) 0
    unfolding tag_at field_of
    meant_field z l = ap (λ (v : ℕ). v / 2 ^ (8 + 8 * z) % 256) meant_built ∙ read_tag bit_of field_of 0 0 bits_of (omega arith) fields_of z l

    module _ (right : Meant h w keys) where
      pub meant-read : word_read h w ≡ w
      unfolding word_read
      meant-read = go (tagged h) refl
        where
          go : (b : Bool) → tagged h ≡ b → word_read h w ≡ w
          go true e = rw e
          go false e = rw e (sym (right ∙ meant_untagged e))

      field_at : (z : ℕ) → z < 4 → tag_at w z ≡ field_of z
      unfolding tag_at field_of
      field_at z l = ap (λ (v : ℕ). v / 2 ^ (8 + 8 * z) % 256) right ∙ meant_field z l

      bit_at_lem : (z : ℕ) → z < 4 → bit_at w z ≡ bit_of z
      unfolding bit_at
      bit_at_lem z l = ap (λ (v : ℕ). v / 2 ^ z % 2) (right ∙ meant_built) ∙ read-bit bit_of field_of 0 0 bits_of z l

      -- a taken slot has the tag of its key
      pub meant_tag : (s : ℕ) → s < 4 → is_taken h w s ≡ true → tag_in h w s ≡ tag_of h (keys s)
      unfolding field_of
      meant_tag s l e = tag_read h w s ∙ ap (λ (v : ℕ). tag_at v s) meant-read ∙ field_at s l ∙ rw e

      -- to hide a slot is to take its mark away
      hide-value : (s : ℕ) → s < 4 → hide h w s + mark_meant h w keys s ≡ w
      hide-value s l = rw (hide_is h w s l, meant-read, mark_is s, ← (bit_at_lem s l), ← (field_at s l)) (without_rest w s l)

  -- what should stand there, by the fields: each slot's tag is that of its key where its bit is 1, and else 0, and nothing stands beside
  pub record RightFields (w : ℕ) (keys : ℕ → ℕ) : Type 0 where
    pub shown : (s : ℕ) → s < 4 → bit_at w s ≡ 1 → tag_at w s ≡ tag_of h (keys s)
    pub free : (s : ℕ) → s < 4 → bit_at w s ≡ 0 → tag_at w s ≡ 0
    pub between : gap_at w ≡ 0
    pub above : rest_at w ≡ 0

  pub right_fields : (w : ℕ) (keys : ℕ → ℕ) → Meant h w keys → RightFields w keys
  unfolding gap_at rest_at
  right_fields w keys right = record {
    shown = λ s l e. field s l ∙ rw (taken-bit h w s l, eq-eqb _ _ e);
    free = λ s l e. field s l ∙ rw (taken-bit h w s l, ne_eqb (bit_at w s) 1 (λ q. omega arith));
    between = ap (λ (v : ℕ). v / 16 % 16) right ∙ (meant_fields w keys).0;
    above = ap (λ (v : ℕ). v / 2 ^ 40) right ∙ (meant_fields w keys).1;
  }
    where
      field : (s : ℕ) → s < 4 → tag_at w s ≡ cond (is_taken h w s) (tag_of h (keys s)) 0
      field s l = ap (λ (v : ℕ). tag_at v s) right ∙ meant_field w keys s l

  pub fields_right : (w : ℕ) (keys : ℕ → ℕ) → RightFields w keys → Meant h w keys
  unfolding bit_of field_of
  fields_right w keys r =
      fields w ∙ built_same (bit_at w) (bit_of w keys) (tag_at w) (field_of w keys) bits tags r.between r.above ∙ sym (meant_built w keys)
    where
      by : (n : ℕ) → n < 2 → n ≡ cond (eqb n 1) 1 0
      by zero l = refl
      by (suc zero) l = refl
      by (suc (suc n)) l = absurd (omega arith)

      bits : (s : ℕ) → s < 4 → bit_at w s ≡ cond (is_taken h w s) 1 0
      bits s l = rw (taken-bit h w s l) (by (bit_at w s) (bit-small w s))

      at : (s : ℕ) → s < 4 → (n : ℕ) → bit_at w s ≡ n → n < 2 → tag_at w s ≡ cond (eqb n 1) (tag_of h (keys s)) 0
      at s l zero e k = r.free s l e
      at s l (suc zero) e k = r.shown s l e
      at s l (suc (suc n)) e k = absurd (omega arith)

      tags : (s : ℕ) → s < 4 → tag_at w s ≡ cond (is_taken h w s) (tag_of h (keys s)) 0
      tags s l = rw (taken-bit h w s l) (at s l (bit_at w s) refl (bit-small w s))

  module _ (w : ℕ) (keys others : ℕ → ℕ) where
    -- the keys of free slots change
    pub same-meant : ((z : ℕ) → z < 4 → is_taken h w z ≡ true → others z ≡ keys z) → Meant h w keys → Meant h w others
    unfolding meant
    same-meant same m = m ∙ rw (one 0 (omega arith), one 1 (omega arith), one 2 (omega arith), one 3 (omega arith))
      where
        one : (z : ℕ) → z < 4 → mark_meant h w keys z ≡ mark_meant h w others z
        one z l = sym (mark-same w w keys others z refl (same z l))

    -- slot s changes, and the others keep their keys
    beside : (v s : ℕ) (b : Bool) → s < 4 → ((z : ℕ) → z < 4 → (z ≡ s → ⊥) → others z ≡ keys z) → Meant h w keys → Bit h w v s b
        → meant h v others + mark_meant h w keys s ≡ w + mark_meant h v others s
    beside v s b low same m bit =
        marks_changed v w keys others s low (λ z l d. mark-same v w keys others z (bit.other z l d) (λ q. same z l d))
        ∙ ap (λ (n : ℕ). n + mark_meant h v others s) (sym m)

    -- slot s is free or keeps its key; it is shown with its key; it is hidden; another slot is hidden and it is shown
    module _ (s key : ℕ) where
      pub kept_follows : (is_taken h w s ≡ true → key ≡ keys s) → Follows h w w keys others s key
      kept_follows same m e = same-meant (λ z l q. go z l q (ℕ_discrete z s)) m
        where
          go : (z : ℕ) → z < 4 → is_taken h w z ≡ true → Dec (z ≡ s) → others z ≡ keys z
          go z l q (yes d) = rw d (e.here ∙ same (rw d at q))
          go z l q (no d) = e.other z l d

      pub show_follows : s < 4 → Follows h w (show h w s key) keys others s key
      unfolding show
      show_follows low m e =
          omega (arith, beside (show h w s key) s true low e.other m (show-bit h w s key low), hide-value w keys m s low, full)
        where
          full : mark_meant h (show h w s key) others s ≡ mark s 1 (tag_of h key)
          full = mark-some (show h w s key) others s (show-bit h w s key low).here ∙ ap (λ (k : ℕ). mark s 1 (tag_of h k)) e.here

      pub hide_follows : s < 4 → Follows h w (hide h w s) keys others s key
      hide_follows low m e = omega (arith, beside (hide h w s) s false low e.other m (hide-bit h w s low), hide-value w keys m s low, none)
        where
          none : mark_meant h (hide h w s) others s ≡ 0
          none = mark-none (hide h w s) others s (hide-bit h w s low).here

-- another slot is hidden, and then slot s is shown
pub beside_follows : (h : Header) (w : ℕ) (keys others : ℕ → ℕ) (s key : ℕ) → s < 4 → (a : ℕ) → a < 4
    → Follows h w (show h (hide h w a) s key) keys others s key
beside_follows h w keys others s key low a al m e =
    show_follows h (hide h w a) keys others s key low (hide_follows h w keys keys a (keys a) al m (record { here = refl; other = λ z l d. refl })) e

-- the state plays no part
module _ (h : Header) (s : State) where
  pub state-taken : (w z : ℕ) → is_taken (with_state h s) w z ≡ is_taken h w z
  unfolding is_taken
  state-taken w z = refl

  pub state-meant : (w : ℕ) (keys : ℕ → ℕ) → meant (with_state h s) w keys ≡ meant h w keys
  unfolding meant mark_meant is_taken tag_of mixed tagged with_state
  state-meant w keys = refl
