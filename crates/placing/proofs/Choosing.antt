-- A bucket's records, and what its token word says of its slots.
-- Assumes nothing.
use Prim.Native.Nat.{ℕ, ◌≤◌, ◌<◌}
use mathlib.Core.Path.{◌≡◌, refl, sym, ap, ◌∙◌}
use mathlib.Core.Bool.{Bool, true, false, not, cond, ◌&&◌}
use mathlib.Core.List.{List, [], ◌∷◌}
use mathlib.Core.Logic.Iff
use mathlib.Core.Option.{Option, none, some, map, get_or}
use native.Mathlib.Omega.{arith}
use borrow.Author.Tests.{eqb-true, lt-ltb, le-ltb}
use lib.Dec.{eqb}
use lib.ListN.{length}
use Rattle.rules.specs.Choice.{given, or_else, first_of}
use Rattle.rules.specs.Words.{Table, slot_at, slots_in, token_of, is_taken, slots, taken_of, lowest_free, taken}
use Rattle.rules.specs.Places.{first_place, second_place}
use Rattle.rules.specs.Placing.{taken_in, free_slot, fewer, emptier, room_in}
use Rattle.rules.specs.declared.Header.{Header}
use Rattle.rules.specs.declared.Level.{Level}
use Rattle.rules.specs.declared.Hashes.{Hashes}
use Rattle.rules.specs.declared.Place.{Place}
use Rattle.rules.specs.declared.Slot.{Slot}
use Rattle.rules.proofs.Basics.Tests.{tells_and}
use Rattle.rules.proofs.Basics.Lists.{first_of-map, first_of-given}
use Rattle.std.specs.Prelude.{Some, None}
use Rattle.reading.specs.Within.{slot_found}
use Rattle.reading.specs.Levels.{place_in}
use Rattle.rules.proofs.Basics.Lowest.{lowest-some, lowest-none}
use Rattle.placing.specs.Buckets.{item_in, items_in, first_free}

-- ---- the four records

module _ (t : Table) (p : Place) where
  pub records : {x₀ x₁ x₂ x₃ : Slot} {a b c d : List ℕ} → x₀ ≡ slot_at p 0 → x₁ ≡ slot_at p 1 → x₂ ≡ slot_at p 2 → x₃ ≡ slot_at p 3
      → a ≡ item_in t x₀ → b ≡ item_in t x₁ → c ≡ item_in t x₂ → d ≡ item_in t x₃ → a ∷ b ∷ c ∷ d ∷ [] ≡ items_in t p
  unfolding items_in slots_in
  records e₀ e₁ e₂ e₃ f₀ f₁ f₂ f₃ = rw (f₀, f₁, f₂, f₃, e₀, e₁, e₂, e₃)

-- ---- the slots of a token word

module _ (h : Header) (word : ℕ) where
  -- the first free slot, and as a number the first free record of any four
  unfoldable pub free_in : Option ℕ
  free_in = first_of (λ (s : ℕ). given (not (is_taken h word s)) s) slots

  abbrev or_next : Bool → ℕ → Option ℕ → Option ℕ
  or_next b s rest = or_else (given (not b) s) rest

  of_four : (a b c d : Bool) → get_or (or_next a 0 (or_next b 1 (or_next c 2 (or_next d 3 none)))) 4 ≡ cond a (cond b (cond c (cond d 4 3) 2) 1) 0
  of_four false b c d = refl
  of_four true false c d = refl
  of_four true true false d = refl
  of_four true true true false = refl
  of_four true true true true = refl

  pub first_record : (items : List (List ℕ)) → length items ≡ 4 → lowest_free h word ≡ first_free h word items
  unfolding lowest_free first_free
  first_record (i₀ ∷ i₁ ∷ i₂ ∷ i₃ ∷ []) l = of_four (is_taken h word 0) (is_taken h word 1) (is_taken h word 2) (is_taken h word 3)
  first_record [] l = absurd (omega arith)
  first_record (i₀ ∷ []) l = absurd (omega arith)
  first_record (i₀ ∷ i₁ ∷ []) l = absurd (omega arith)
  first_record (i₀ ∷ i₁ ∷ i₂ ∷ []) l = absurd (omega arith)
  first_record (i₀ ∷ i₁ ∷ i₂ ∷ i₃ ∷ i₄ ∷ is) l = absurd (omega arith)

  -- the number tells whether there is a free slot
  module _ {s : ℕ} (e : s ≡ lowest_free h word) where
    pub no_free : s ≡ 4 → free_in ≡ none
    unfolding free_in lowest_free
    no_free q = lowest-none (λ (z : ℕ). not (is_taken h word z)) s e (omega arith)

    pub one_free : s < 4 → free_in ≡ some s
    unfolding free_in lowest_free
    one_free l = lowest-some (λ (z : ℕ). not (is_taken h word z)) s e l

-- ---- the slots of a place

module _ (t : Table) (h : Header) (p : Place) where
  pub free_in_lem : free_slot t h p ≡ map (slot_at p) (free_in h (token_of t p.bucket))
  unfolding free_slot free_in slots_in taken slot_at
  free_in_lem =
      first_of-map (λ (x : Slot). given (not (taken t h x)) x) (slot_at p) slots
      ∙ first_of-given (λ (s : ℕ). not (is_taken h (token_of t p.bucket) s)) (slot_at p) slots

-- ---- the free slot of a place, and of a level

module _ (t : Table) (h : Header) (p : Place) {word s : ℕ} {items : List (List ℕ)} (w : word ≡ token_of t p.bucket) (b : items ≡ items_in t p)
    (e : s ≡ first_free h word items) where
  number : s ≡ lowest_free h word
  unfolding items_in slots_in
  number = e ∙ sym (first_record h word items (ap length b))

  pub place-full : s ≡ 4 → None ≡ slot_found (free_slot t h p)
  place-full q = rw (free_in_lem t h p, ← w, no_free h word number q)

  pub place-free : {x : Slot} → s ≤ 4 → (s ≡ 4 → ⊥) → x ≡ slot_at p s → Some x ≡ slot_found (free_slot t h p)
  place-free l n g = rw (free_in_lem t h p, ← w, one_free h word number (omega arith), g)

module _ (t : Table) (h : Header) (f s : Place) {v w m n : ℕ} (a : v ≡ token_of t f.bucket) (b : m ≡ taken_of h v) (c : w ≡ token_of t s.bucket)
    (d : n ≡ taken_of h w) where
  counted : (r : Place) {z k : ℕ} → z ≡ token_of t r.bucket → k ≡ taken_of h z → taken_in t h r ≡ k
  unfolding taken_in
  counted r e g = rw (← e, ← g)

  pub second-emptier : n < m → s ≡ emptier t h f s
  unfolding emptier fewer
  second-emptier g = rw (counted s c d, counted f a b, lt-ltb _ _ g)

  pub first-emptier : m ≤ n → f ≡ emptier t h f s
  unfolding emptier fewer
  first-emptier g = rw (counted s c d, counted f a b, le-ltb _ _ g)

-- a full place, by its token word
full-none : (t : Table) (h : Header) (p : Place) {w : ℕ} → w ≡ token_of t p.bucket → eqb (lowest_free h w) 4 ≡ true → free_slot t h p ≡ none
full-none t h p {w} e k = rw (free_in_lem t h p, ← e, no_free h w refl (eqb-true _ _ k))

module _ (t : Table) (h : Header) (x : Hashes) (l : Level) {f s : Place} (p : f ≡ place_in l x.first) (q : s ≡ place_in l x.second) where
  pub room_chosen : {r : Place} → r ≡ emptier t h f s → free_slot t h r ≡ room_in t h x l
  unfolding room_in first_place second_place
  room_chosen e = rw (e, p, q)

  -- "If both are full": whichever is chosen
  pub both_full : {v w : ℕ} {b : Bool} → v ≡ token_of t f.bucket → w ≡ token_of t s.bucket
      → b ≡ eqb (lowest_free h v) 4 && eqb (lowest_free h w) 4 → b ≡ true → None ≡ slot_found (room_in t h x l)
  unfolding emptier
  both_full c d e k =
      let full = (tells_and (eqb (lowest_free h _) 4) (eqb (lowest_free h _) 4) Iff.rfl Iff.rfl).0 (sym e ∙ k) in
      let none_there = either (fewer t h s f) (full-none t h f c full.0) (full-none t h s d full.1) in
      sym (ap slot_found (sym (room_chosen refl) ∙ none_there))
    where
      either : (b : Bool) → free_slot t h f ≡ none → free_slot t h s ≡ none → free_slot t h (cond b s f) ≡ none
      either true m n = n
      either false m n = m
