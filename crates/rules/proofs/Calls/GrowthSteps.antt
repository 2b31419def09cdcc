-- A growth step on a sound table: 8 at rest, 11 with no item from its start on, 6 exactly where some stand there and none has a place. Else the
-- first that has one stands in top or bottom, the others stay, and the map is the same: a step is one move, or two.
-- Assumes nothing.
use Prim.Native.Nat.{ℕ}
use mathlib.Core.Path.{◌≡◌, refl, sym, ap, ◌∙◌}
use mathlib.Core.Bool.{Bool, true, false, not}
use mathlib.Core.Logic.{◌⊎◌, inl, inr, ◌↔◌}
use mathlib.Core.List.{[], ◌∷◌, ◌++◌, Memᴰ as In, append_assoc}
use mathlib.Core.Option.{Option, none, some}
use native.Mathlib.Decide.{ℕ_discrete}
use native.Mathlib.Omega.{arith}
use borrow.Author.Tests.{eq-eqb, ne_eqb}
use Rattle.rules.specs.Choice.{empty}
use Rattle.rules.specs.Words.{Table, header_of, at_rest, top, bottom, interim, InUse, place_of, key_in, record_in, token_of, hide}
use Rattle.rules.specs.Places.{places_of}
use Rattle.rules.specs.Placing.{placing, somewhere}
use Rattle.rules.specs.Stores.{put_stores, clear_stores, move_stores, placing_stores, step_stores, made}
use Rattle.rules.specs.Soundness.{TakenSlot, PlainMap}
use Rattle.rules.specs.Calls.{checked, refused, listed, items_from, step_item, step_in, step_tests, step_of, outcome}
use Rattle.rules.specs.Demands.{InterimItem, None, InterimFrom, FirstWithPlace, NoneHasPlace, Given, StepMoves, StepBy, StepAnswers}
use Rattle.rules.specs.declared.Slot.{Slot}
use Rattle.rules.specs.declared.Place.{Place}
use Rattle.rules.specs.declared.Placing.{Placing}
use Rattle.rules.specs.declared.Placing.TheVariants.{Free, Move, Nowhere}
use Rattle.rules.specs.declared.Refusal.TheVariants.{InterimEmpty, NoPlace}
use Rattle.rules.proofs.Basics.Lists.{never}
use Rattle.rules.proofs.Words.Made.{made_append}
use Rattle.rules.proofs.Places.PlacesInUse.{among_used, place_of_slot, place_by_bucket}
use Rattle.rules.proofs.Places.Placings.{FreeFor, MoveFor, placing-free, placing_move, placed-somewhere}
use Rattle.rules.proofs.Tables.Interims.{step-item, no_step-item, from_empty, from_left}
use Rattle.rules.proofs.Calls.Passing.{passes, whole_of, gives}
use Rattle.rules.proofs.Carrying.Putting.{SoundMap, Becomes}
use Rattle.rules.proofs.Carrying.ItemMoved.{AfterMove, move_whole}

-- top or bottom
abbrev pub Settled : Slot → Type 0
Settled x = (x.level ≡ top) ⊎ (x.level ≡ bottom)

pub not_interim : (x : Slot) → Settled x → x.level ≡ interim → ⊥
not_interim x (inl e) f = omega arith
not_interim x (inr e) f = omega arith

pub slot_same : (x y : Slot) → Dec (x ≡ y)
slot_same x y = go (ℕ_discrete x.level y.level) (ℕ_discrete x.bucket y.bucket) (ℕ_discrete x.slot y.slot)
  where
    go : Dec (x.level ≡ y.level) → Dec (x.bucket ≡ y.bucket) → Dec (x.slot ≡ y.slot) → Dec (x ≡ y)
    go (yes l) (yes b) (yes s) = yes (λ i. record { level = l i; bucket = b i; slot = s i })
    go (no n) b s = no (λ e. n (ap (λ (z : Slot). z.level) e))
    go (yes l) (no n) s = no (λ e. n (ap (λ (z : Slot). z.bucket) e))
    go (yes l) (yes b) (no n) = no (λ e. n (ap (λ (z : Slot). z.slot) e))

-- after a move to top or bottom, the interim items are those before but the one that moved
interims_after : (t u : Table) (m : PlainMap) (from to : Slot) → AfterMove t u m from to → Settled to → (y : Slot)
    → InterimItem u y ↔ (InterimItem t y × (y ≡ from → ⊥))
interims_after t u m from to v settled y = (
  λ a. go a (v.stood y a.item),
  λ b. record { item = (v.stays y b.0.item b.1).0; level = b.0.level },
)
  where
    go : InterimItem u y → (y ≡ to) ⊎ ((y ≡ from → ⊥) × TakenSlot t y) → InterimItem t y × (y ≡ from → ⊥)
    go a (inl e) = absurd (not_interim to settled (rw e at a.level))
    go a (inr (n, b)) = (record { item = b; level = a.level }, n)

module _ (t : Table) (m : PlainMap) (whole : SoundMap t m) (x : Slot) (item : InterimItem t x) where
  -- the interim level's buckets are no other's
  pub elsewhere : (y : Slot) → InUse (header_of t).state y → Settled y → x.bucket ≡ y.bucket → ⊥
  unfolding place_of
  elsewhere y used settled e =
      let s = (header_of t).state in
      let same = place_by_bucket s (header_of t).c whole.sound.orderly.header.state (place_of x) (place_of y)
      (place_of_slot s x item.item.used) (place_of_slot s y used) e in
      not_interim y settled (sym (ap (λ (p : Place). p.level) same) ∙ item.level)

  -- every other taken slot stays taken, and keeps its key unless its item made room
  abbrev pub Keeps : Placing → Table → Type 0
  Keeps p u = (z : Slot) → TakenSlot t z → (z ≡ x → ⊥) → TakenSlot u z × ((key_in u z ≡ key_in t z) ⊎ ((to : Slot) × (p ≡ Move z to)))

  abbrev pub Steps : Placing → Type 0
  Steps p =
      (b : Becomes t (made t (step_stores t (header_of t) x p)) m) × StepMoves t (made t (step_stores t (header_of t) x p)) x
      × Keeps p (made t (step_stores t (header_of t) x p))

  -- a free slot: one move
  free_steps : (y : Slot) → FreeFor t (header_of t) (key_in t x) y → Steps (Free y)
  unfolding step_stores placing_stores move_stores
  free_steps y f =
      let used = among_used (header_of t) (key_in t x) y f.slot f.among in
      let v = move_whole t m whole x y item.item used f.free f.among (elsewhere y used f.level) in (
        record { whole = v.whole; header = v.header },
        record { rest = interims_after t _ m x y v f.level; slot = y; stands = v.arrived.0; level = f.level; key = v.arrived.1; value = v.arrived.2 },
        λ z a n. let k = v.stays z a n in (k.0, inl k.1),
      )

  -- a move, and then another, of the interim item to the slot that the first one freed
  two_moves : (from to : Slot) (u : Table) → AfterMove t u m from to → Settled from → Settled to → InUse (header_of t).state from
      → InUse (header_of t).state to → In (place_of from) (places_of (header_of t) (key_in t x))
      → (w : Table) × (w ≡ made u
      (put_stores (header_of t) (hide (header_of t) (token_of t from.bucket) from.slot) from (key_in t x) (record_in t x) ++ clear_stores
      (header_of t) (token_of t x.bucket) x))
      × Becomes t w m × StepMoves t w x × Keeps (Move from to) w
  unfolding move_stores
  two_moves from to u v high low used target among =
      let h = header_of t in
      let far = elsewhere from used high in
      let k = v.stays x item.item (λ e. not_interim from high (rw e at item.level)) in
      let w = move_whole u m v.whole x from k.0 (rw v.header used) v.free (rw (v.header, k.1) among) far in (
        made u (move_stores u (header_of u) x from),
        rw (v.header, v.token, k.1, k.2, v.tokens x.bucket far (elsewhere to target low)),
        record { whole = w.whole; header = w.header ∙ v.header },
        record {
          rest = λ y. (
            λ a.
                let b = (interims_after u _ m x from w high y).0 a in
                (((interims_after t u m from to v low y).0 b.0).0, b.1),
            λ b. (interims_after u _ m x from w high y).1
                ((interims_after t u m from to v low y).1 (b.0, λ e. not_interim from high (rw e at b.0.level)), b.1),
          );
          slot = from;
          stands = w.arrived.0;
          level = high;
          key = w.arrived.1 ∙ k.1;
          value = w.arrived.2 ∙ k.2;
        },
        λ z a n. stays_twice u _ v w z a n (slot_same z from),
      )
    where
      stays_twice : (u w : Table) → AfterMove t u m from to → AfterMove u w m x from → (z : Slot) → TakenSlot t z → (z ≡ x → ⊥)
          → Dec (z ≡ from)
          → TakenSlot w z × ((key_in w z ≡ key_in t z) ⊎ ((goal : Slot) × (Move from to ≡ Move z goal)))
      stays_twice u w v k z a n (yes e) = (rw e k.arrived.0, inr (to, rw e refl))
      stays_twice u w v k z a n (no other) =
          let first = v.stays z a other in
          let second = k.stays z first.0 n in
          (second.0, inl (second.1 ∙ first.1))

  move_steps : (from to : Slot) → MoveFor t (header_of t) (key_in t x) from to → Steps (Move from to)
  unfolding step_stores placing_stores
  move_steps from to f =
      let h = header_of t in
      let g = f.goal in
      let used = among_used (header_of t) (key_in t x) from f.slot f.among in
      let target = among_used (header_of t) (key_in t from) to g.slot g.among in
      let v = move_whole t m whole from to (record { used = used; shown = f.item }) target g.free g.among f.apart in
      let w = two_moves from to (made t (move_stores t h from to)) v f.level g.level used target f.among in
      let puts = put_stores h (hide h (token_of t from.bucket) from.slot) from (key_in t x) (record_in t x) in
      let e : made t ((move_stores t h from to ++ puts) ++ clear_stores h (token_of t x.bucket) x) ≡ w.0
      = ap (made t) (append_assoc (move_stores t h from to) puts (clear_stores h (token_of t x.bucket) x))
      ∙ made_append t (move_stores t h from to) (puts ++ clear_stores h (token_of t x.bucket) x) ∙ sym w.1 in
      rw e (w.2, w.3, w.4)

  placing_steps : (p : Placing) → somewhere p ≡ true → placing t (header_of t) (key_in t x) ≡ p → Steps p
  placing_steps (Free y) s e = free_steps y (placing-free t (header_of t) (key_in t x) y e)
  placing_steps (Move from to) s e = move_steps from to (placing_move t (header_of t) (key_in t x) from to e)
  placing_steps Nowhere s e = never s refl

-- the step that takes the first item with a place, from bucket b on
module _ (t : Table) (m : PlainMap) (whole : SoundMap t m) (b : ℕ) (x : Slot) (first : FirstWithPlace t (InterimFrom t b) x) where
  pub taken_steps : Steps t m whole x first.item.item (placing t (header_of t) (key_in t x))
  taken_steps = placing_steps t m whole x first.item.item _ (placed-somewhere t (header_of t) (key_in t x) first.place) refl

  step_by : (n : ℕ) → StepBy t m x (listed (step_stores t (header_of t) x (placing t (header_of t) (key_in t x))))
  unfolding gives
  step_by n = (gives t m _ taken_steps.0, taken_steps.1)

module _ (t : Table) (m : PlainMap) (n : ℕ) (given : Given t m n) where
  -- an interim item stands: by the one that is taken
  answers : (b : ℕ) (x : Slot) → InterimFrom t b x → (o : Option Slot) → step_item t (header_of t) b ≡ o
      → (NoneHasPlace t (InterimFrom t b) × (step_in t (header_of t) o ≡ refused NoPlace))
      ⊎ ((x : Slot) × FirstWithPlace t (InterimFrom t b) x × StepBy t m x (step_in t (header_of t) o))
  answers b x item none e = inl (record { remain = (x, item); stuck = no_step-item t b e }, refl)
  answers b x item (some y) e = let first = step-item t b y e in inr (y, first, step_by t m (whole_of t m n given) b y first n)

pub step_answers : StepAnswers
unfolding outcome step_of step_tests at_rest
step_answers t m n given b = (
  λ rest. rw (passes t m n given, eq-eqb (header_of t).state.phase 0 rest),
  λ resizing. rw (passes t m n given, ne_eqb (header_of t).state.phase 0 resizing) (go (empty (items_from t (header_of t) b)) refl),
)
  where
    go : (e : Bool) → empty (items_from t (header_of t) b) ≡ e
        → let o = checked refused ((not e, InterimEmpty) ∷ []) (step_in t (header_of t) (step_item t (header_of t) b)) in
        (None (InterimFrom t b) × (o ≡ refused InterimEmpty)) ⊎ ((NoneHasPlace t (InterimFrom t b) × (o ≡ refused NoPlace))
        ⊎ ((x : Slot) × FirstWithPlace t (InterimFrom t b) x × StepBy t m x o))
    go true e = inl ((from_empty t b).0 e, refl)
    go false e = let x = from_left t b e in inr (answers t m n given b x.0 x.1 (step_item t (header_of t) b) refl)
