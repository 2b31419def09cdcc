-- The search for a key in the slots of a bucket that are left to read.
-- Assumes nothing.
use Prim.Native.Nat.{ℕ, ◌+◌, ◌-◌, ◌*◌, ◌/◌, ◌%◌, ◌^◌, ◌<◌}
use mathlib.Core.Path.{◌≡◌, refl, sym, ap, ◌∙◌}
use mathlib.Core.Bool.{Bool, true, false, cond, ◌&&◌, and-false}
use mathlib.Core.Option.{Option, none, some}
use native.Mathlib.Omega.{arith}
use borrow.Author.Tests.{eq-eqb, ne_eqb, eqb-true}
use lib.Bits.{bit_and}
use lib.Count.{count_trailing_zeros}
use lib.Dec.{eqb}
use Rattle.rules.specs.Choice.{given, first_of}
use Rattle.rules.specs.Forms.{tagged, tag_of}
use Rattle.rules.specs.Words.{Table, slots, slot_at, slots_in, is_taken, word_read, tag_in, token_of, taken, key_in}
use Rattle.rules.specs.Places.{fits, holds, hit_in}
use Rattle.rules.specs.declared.Header.{Header}
use Rattle.rules.specs.declared.Place.{Place}
use Rattle.rules.specs.declared.Slot.{Slot}
use Rattle.rules.proofs.Basics.Lists.{never}
use Rattle.rules.proofs.Words.Fields.{four}
use Rattle.rules.proofs.Words.Forms.{tag_untagged}
use Rattle.rules.proofs.Words.Tokens.{below, below_all, tag_small, no_tag_in}
use Rattle.reading.specs.Tokens.{fitting, readable, spread, lowest_mark, rest_of}
use Rattle.reading.proofs.Marks.{fitting-small, fitting_names, rest-spread, some_left, none_left}

-- whether a number of four bits names a slot
abbrev pub named : ℕ → ℕ → Bool
named n s = eqb (n / 2 ^ s % 2) 1

pub some_left_over : (n : ℕ) → (n ≡ 0 → ⊥) → 0 < n
some_left_over n d = omega (arith, d)

-- what holds of each number of four bits
sixteen : (P : ℕ → Type 0) → ((a : ℕ) → a < 4 → (b : ℕ) → b < 4 → P (4 * a + b)) → (n : ℕ) → n < 16 → P n
sixteen P f n l =
    let same : 4 * (n / 4) + n % 4 ≡ n = omega arith in
    rw same at (f (n / 4) (omega arith) (n % 4) (omega arith))

-- by computed tests of all sixteen
all_named : (s : ℕ) → s < 4 → named 15 s ≡ true
all_named = four (λ s. named 15 s ≡ true) refl refl refl refl

lowest-named : (n : ℕ) → n < 16 → (n ≡ 0 → ⊥) → named n (lowest_mark (spread n)) ≡ true
unfolding lowest_mark spread count_trailing_zeros
lowest-named n l d = passed (eqb n 0) refl (below_all 16 (λ m. cond (eqb m 0) true (named m (lowest_mark (spread m)))) refl n l)
  where
    passed : (b : Bool) → eqb n 0 ≡ b → cond b true (named n (lowest_mark (spread n))) ≡ true → named n (lowest_mark (spread n)) ≡ true
    passed true q e = absurd (d (eqb-true _ _ q))
    passed false q e = e

rest-named : (n : ℕ) → n < 16 → (s : ℕ) → s < 4 → named (bit_and n (n - 1)) s ≡ true → named n s ≡ true
rest-named n l s k q =
    passed (named (bit_and n (n - 1)) s) refl
    (below_all 4 (λ z. cond (named (bit_and n (n - 1)) z) (named n z) true)
    (below_all 16 (λ m. below 4 (λ z. cond (named (bit_and m (m - 1)) z) (named m z) true)) refl n l)
    s k)
  where
    passed : (b : Bool) → named (bit_and n (n - 1)) s ≡ b → cond b (named n s) true ≡ true → named n s ≡ true
    passed true r e = e
    passed false r e = never q r

module _ (t : Table) (h : Header) (key : ℕ) where
  -- in the slots of a bucket that a number names
  pub in_slots : Place → ℕ → Option Slot
  in_slots p n = first_of (λ (s : ℕ). given (named n s && holds t h key (slot_at p s)) (slot_at p s)) slots

  module _ (p : Place) where
    pub slots-over : in_slots p 0 ≡ none
    unfolding in_slots
    slots-over = refl

    -- the lowest slot does not hold the key, or holds it
    abbrev Passed : ℕ → Type 0
    Passed n = (n ≡ 0 → ⊥) → holds t h key (slot_at p (lowest_mark (spread n))) ≡ false → in_slots p n ≡ in_slots p (bit_and n (n - 1))

    slot_passed : (n : ℕ) → n < 16 → Passed n
    unfolding in_slots lowest_mark spread count_trailing_zeros
    slot_passed =
        sixteen Passed
        (four (λ a. (b : ℕ) → b < 4 → Passed (4 * a + b)) (four (λ b. Passed (4 * 0 + b)) (λ d e. absurd (d refl)) (λ d e. rw e) (λ d e. rw e) (λ d e. rw e))
        (four (λ b. Passed (4 * 1 + b)) (λ d e. rw e) (λ d e. rw e) (λ d e. rw e) (λ d e. rw e))
        (four (λ b. Passed (4 * 2 + b)) (λ d e. rw e) (λ d e. rw e) (λ d e. rw e) (λ d e. rw e))
        (four (λ b. Passed (4 * 3 + b)) (λ d e. rw e) (λ d e. rw e) (λ d e. rw e) (λ d e. rw e)))

    abbrev Hit : ℕ → Type 0
    Hit n = (n ≡ 0 → ⊥) → holds t h key (slot_at p (lowest_mark (spread n))) ≡ true → in_slots p n ≡ some (slot_at p (lowest_mark (spread n)))

    slot_hit : (n : ℕ) → n < 16 → Hit n
    unfolding in_slots lowest_mark spread count_trailing_zeros
    slot_hit =
        sixteen Hit
        (four (λ a. (b : ℕ) → b < 4 → Hit (4 * a + b)) (four (λ b. Hit (4 * 0 + b)) (λ d e. absurd (d refl)) (λ d e. rw e) (λ d e. rw e) (λ d e. rw e))
        (four (λ b. Hit (4 * 1 + b)) (λ d e. rw e) (λ d e. rw e) (λ d e. rw e) (λ d e. rw e))
        (four (λ b. Hit (4 * 2 + b)) (λ d e. rw e) (λ d e. rw e) (λ d e. rw e) (λ d e. rw e))
        (four (λ b. Hit (4 * 3 + b)) (λ d e. rw e) (λ d e. rw e) (λ d e. rw e) (λ d e. rw e)))

    -- ---- what is left to read

    -- the marks name those slots, each has a tag that fits, and the search of the bucket is the search among them
    pub record Left (n marks : ℕ) : Type 0 where
      pub small : n < 16
      pub marked : marks ≡ spread n
      pub fitted : (s : ℕ) → s < 4 → named n s ≡ true → fits t h key (slot_at p s) ≡ true
      pub found : hit_in t h key p ≡ in_slots p n

    module _ {n marks : ℕ} (left : Left n marks) where
      spread-some : (marks ≡ 0 → ⊥) → spread n ≡ 0 → ⊥
      spread-some more e = more (left.marked ∙ e)

      pub lowest_low : (marks ≡ 0 → ⊥) → lowest_mark marks < 4
      lowest_low more = rw left.marked (some_left n left.small (spread-some more)).1

      pub left_over : marks ≡ 0 → hit_in t h key p ≡ none
      left_over e = left.found ∙ rw (none_left n left.small (sym left.marked ∙ e)) slots-over

      -- the lowest slot does not hold the key
      module _ (more : marks ≡ 0 → ⊥) where
        next : holds t h key (slot_at p (lowest_mark marks)) ≡ false → Left (bit_and n (n - 1)) (rest_of marks)
        next e =
            let r = rest-spread n left.small in
            record {
              small = r.1;
              marked = ap rest_of left.marked ∙ r.0;
              fitted = λ s l q. left.fitted s l (rest-named n left.small s l q);
              found =
                  left.found ∙ slot_passed n left.small (some_left n left.small (spread-some more)).0 (rw left.marked at e);
            }

        pub left_other : (key_in t (slot_at p (lowest_mark marks)) ≡ key → ⊥) → Left (bit_and n (n - 1)) (rest_of marks)
        unfolding holds
        left_other d = next (rw (ne_eqb _ _ d, and-false, and-false))

        -- by the token word of the bucket
        module _ {word : ℕ} (w : word ≡ token_of t p.bucket) where
          pub left_free : is_taken h word (lowest_mark marks) ≡ false → Left (bit_and n (n - 1)) (rest_of marks)
          unfolding holds taken slot_at
          left_free e = next (rw (← w, e))

          pub left_hit : is_taken h word (lowest_mark marks) ≡ true → key_in t (slot_at p (lowest_mark marks)) ≡ key
              → hit_in t h key p ≡ some (slot_at p (lowest_mark marks))
          unfolding holds taken slot_at
          left_hit e k =
              let low = lowest_low more in
              let name : named n (lowest_mark marks) ≡ true =
              rw left.marked (lowest-named n left.small (some_left n left.small (spread-some more)).0) in
              let holding : holds t h key (slot_at p (lowest_mark marks)) ≡ true = rw (← w, e, left.fitted (lowest_mark marks) low name, eq-eqb _ _ k) in
              left.found
              ∙ rw left.marked (slot_hit n left.small (some_left n left.small (spread-some more)).0 (rw left.marked at holding))

    -- ---- all that are read

    -- a slot that holds the key is among them
    among : (n : ℕ) → ((s : ℕ) → s < 4 → holds t h key (slot_at p s) ≡ (named n s && holds t h key (slot_at p s))) → hit_in t h key p ≡ in_slots p n
    unfolding hit_in in_slots slots_in
    among n same = rw (← (same 0 (omega arith)), ← (same 1 (omega arith)), ← (same 2 (omega arith)), ← (same 3 (omega arith)))

    both : (a b c : Bool) → (a && (b && c)) ≡ (b && (a && (b && c)))
    both true true c = refl
    both true false c = refl
    both false true c = refl
    both false false c = refl

    module _ {tags : Bool} (kind : tags ≡ tagged h) {own : ℕ} (tag : own ≡ tag_of h key) where
      abbrev here : ℕ
      here = token_of t p.bucket

      tagged-read : tags ≡ true → (s : ℕ) → s < 4 → named (fitting here own) s ≡ fits t h key (slot_at p s)
      unfolding fits slot_at tag_in word_read
      tagged-read e s l = rw (← kind, e, ← tag) (fitting_names here own (rw tag (tag_small h key)) s l)

      of_tagged : tags ≡ true → Left (fitting here own) (spread (fitting here own))
      unfolding holds
      of_tagged e = record {
        small = fitting-small here own (rw tag (tag_small h key));
        marked = refl;
        fitted = λ s l q. sym (tagged-read e s l) ∙ q;
        found = among (fitting here own) (λ s l. rw (tagged-read e s l) (both (taken t h (slot_at p s)) (fits t h key (slot_at p s)) _));
      }

      untagged_fits : tags ≡ false → (s : ℕ) → s < 4 → fits t h key (slot_at p s) ≡ true
      unfolding fits slot_at
      untagged_fits e s l = eq-eqb _ _ (no_tag_in h (sym kind ∙ e) here s l ∙ sym (tag_untagged h (sym kind ∙ e) key))

      of_untagged : tags ≡ false → Left 15 (spread 15)
      of_untagged e = record {
        small = omega arith;
        marked = refl;
        fitted = λ s l q. untagged_fits e s l;
        found = among 15 (λ s l. rw (all_named s l));
      }

      pub left_all : (n : ℕ) × Left n (spread (readable tags here own))
      unfolding readable
      left_all = go tags refl
        where
          go : (b : Bool) → tags ≡ b → (n : ℕ) × Left n (spread (cond b (fitting here own) 15))
          go true e = (fitting here own, of_tagged e)
          go false e = (15, of_untagged e)
