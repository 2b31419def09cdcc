-- The stores of a move and of a placing, as the code writes them.
-- Assumes nothing.
use Prim.Native.Nat.{ℕ, ◌+◌, ◌≤◌}
use mathlib.Core.Path.{◌≡◌, refl, sym, ap, ◌∙◌}
use mathlib.Core.List.{List, [], ◌∷◌, ◌++◌}
use mathlib.Core.Logic.{⊎_elim}
use native.Mathlib.Omega.{arith}
use denote.Enum.Declared.{tag_of}
use types.Run.{OneOf}
use Rattle.rules.specs.Words.{Table, key_in, record_in, token_of, hide}
use Rattle.rules.specs.Stores.{Store, put_stores, clear_stores, move_stores, placing_stores}
use Rattle.rules.specs.Calls.{refused, listed, placed_by}
use Rattle.rules.specs.declared.Header.{Header}
use Rattle.rules.specs.declared.Slot.{Slot}
use Rattle.rules.specs.declared.Record.{Record}
use Rattle.rules.specs.declared.Placing.{Placing}
use Rattle.rules.specs.declared.Placing.TheVariants.{Free, Move, Nowhere}
use Rattle.rules.specs.declared.Refusal.TheVariants.{NoPlace}
use Rattle.rules.specs.contracts.Placing.{the_type}
use Rattle.reading.specs.Within.{SlotWithin, PlacingWithin}
use Rattle.listing.specs.Listing.{listed_at, Run, Takes}
use Rattle.listing.proofs.Runs.{then}

-- ---- the slot that a placing's new item takes

module _ (t : Table) (x : Slot) where
  pub takes_within : (p : Placing) → Takes t p x → SlotWithin t x
  unfolding Takes
  takes_within (Free y) k = rw k.0 k.1
  takes_within (Move from to) k = rw k.0 k.1.0
  takes_within Nowhere k = absurd k

  -- what takes a slot without a move takes a free slot
  pub takes_free : (p : Placing) → OneOf (0 ∷ 2 ∷ []) (tag_of the_type p) → Takes t p x → p ≡ Free x
  unfolding Takes
  takes_free (Free y) h k = ap Free (sym k.0)
  takes_free (Move from to) h k = absurd (⊎_elim (λ e. omega arith) (λ e. omega arith) h)
  takes_free Nowhere h k = absurd k

  pub takes_moved : {p : Placing} {from to : Slot} → p ≡ Move from to → Takes t p x → (x ≡ from) × SlotWithin t from × SlotWithin t to
  unfolding Takes
  takes_moved e k = let m = rw e at k in (m.0, m.1.0, m.1.1)

-- a placing q that was taken apart as p, with the slot x of its new item
module _ (t : Table) {p q : Placing} {x y : Slot} where
  pub apart-free : q ≡ Free y → p ≡ Free y → x ≡ y → PlacingWithin t q → (p ≡ q) × Takes t p x
  unfolding Takes
  apart-free a b d w = (b ∙ sym a, rw b (d, rw a at w))

  pub apart_move : {to : Slot} → q ≡ Move y to → p ≡ Move y to → x ≡ y → PlacingWithin t q → (p ≡ q) × Takes t p x
  unfolding Takes
  apart_move a b d w = (b ∙ sym a, rw b (d, rw a at w))

-- what a placing comes to: "6 | no place" or its stores
pub placed_nowhere : (p : Placing) (xs : List Store) → OneOf (2 ∷ []) (tag_of the_type p) → refused NoPlace ≡ placed_by p xs
placed_nowhere (Free x) xs k = absurd (omega arith)
placed_nowhere (Move from to) xs k = absurd (omega arith)
placed_nowhere Nowhere xs k = refl

pub placed-listed : (t : Table) (p : Placing) (x : Slot) (xs : List Store) → Takes t p x → listed xs ≡ placed_by p xs
unfolding Takes
placed-listed t (Free y) x xs k = refl
placed-listed t (Move from to) x xs k = refl
placed-listed t Nowhere x xs k = absurd k

-- ---- the stores

module _ (t : Table) (h : Header) (l : List ℕ) where
  pub move_run : (from to : Slot) {tok key tok₂ : ℕ} {r : Record} {l₁ l₂ : List ℕ} {n₁ n₂ : ℕ} → tok ≡ token_of t to.bucket → key ≡ key_in t from
      → r ≡ record_in t from → tok₂ ≡ token_of t from.bucket
      → (n₁ ≡ 0 + 4) × (l₁ ≡ listed_at l 0 (put_stores h tok to key r)) → (n₂ ≡ n₁ + 1) × (l₂ ≡ listed_at l₁ n₁ (clear_stores h tok₂ from))
      → (n₂ ≡ 5) × (l₂ ≡ listed_at l 0 (move_stores t h from to))
  unfolding move_stores put_stores
  move_run from to a b c d s₁ s₂ =
      (omega (arith, s₁.0, s₂.0), then l 0 (put_stores h _ to _ _) (clear_stores h _ from) s₁.1 s₁.0 s₂.1 ∙ ap (listed_at l 0) (rw (a, b, c, d)))

  module _ (p : Placing) (x : Slot) (key : ℕ) (r : Record) {word : ℕ} (w : word ≡ token_of t x.bucket) where
    pub free-run : {l₁ : List ℕ} {n₁ : ℕ} → p ≡ Free x → (n₁ ≡ 0 + 4) × (l₁ ≡ listed_at l 0 (put_stores h word x key r))
        → Run n₁ l l₁ (placing_stores t h p key r) × (n₁ ≤ 9)
    unfolding placing_stores put_stores
    free-run e s = rw (e, ← w) ((s.0, s.1), omega (arith, s.0))

    pub moved-run : {from to : Slot} {cleared : ℕ} {l₁ l₂ : List ℕ} {n₁ n₂ : ℕ} → p ≡ Move from to → x ≡ from → cleared ≡ hide h word x.slot
        → (n₁ ≡ 5) × (l₁ ≡ listed_at l 0 (move_stores t h from to)) → (n₂ ≡ n₁ + 4) × (l₂ ≡ listed_at l₁ n₁ (put_stores h cleared x key r))
        → Run n₂ l l₂ (placing_stores t h p key r) × (n₂ ≤ 9)
    unfolding placing_stores move_stores put_stores clear_stores
    moved-run {from} {to} {cleared} e f c s₁ s₂ =
        rw (e, ← f) (
          (
            omega (arith, s₁.0, s₂.0),
            then l 0 (move_stores t h x to) (put_stores h cleared x key r) (rw f s₁.1) s₁.0 s₂.1
                ∙ ap (λ (z : ℕ). listed_at l 0 (move_stores t h x to ++ put_stores h z x key r)) (c ∙ ap (λ (z : ℕ). hide h z x.slot) w),
          ),
          omega (arith, s₁.0, s₂.0),
        )
