-- The interim items: those that an end looks at are the taken slots of the interim level, those that a step looks at are the ones from its
-- start on, and the one that it takes is the first of these that has a place.
-- Assumes nothing.
use Prim.Native.Nat.{ℕ, ◌+◌, ◌-◌, ◌*◌, ◌^◌, ◌<◌}
use mathlib.Core.Path.{◌≡◌, refl, sym, ap, ◌∙◌}
use mathlib.Core.Bool.{Bool, true, false, cond}
use mathlib.Core.List.{Memᴰ as In}
use mathlib.Core.Logic.{◌↔◌, ◌⊎◌, inl, inr}
use mathlib.Core.Option.{Option, none, some}
use native.Mathlib.Omega.{arith}
use lib.Dec.{eqb, leb}
use lib.Pow.{pow_pos, pow-add}
use borrow.Author.Tests.{eqb-true, eq-eqb, leb-true, le-leb}
use Rattle.rules.specs.Choice.{given, select, empty}
use Rattle.rules.specs.Words.{Table, header_of, shrinking, interim, size_of, interim_of, levels_in_use, InLevel, slots_of, InUse, key_in, taken}
use Rattle.rules.specs.Soundness.{Before}
use Rattle.rules.specs.Calls.{interim_slots, interim_items, interim_bucket, items_from, has_place, step_item}
use Rattle.rules.specs.NoPlace.{NoPlaceFor}
use Rattle.rules.specs.Demands.{InterimItem, None, NoInterim, interim_size, InterimFrom, FirstWithPlace}
use Rattle.rules.specs.declared.State.{State}
use Rattle.rules.specs.declared.Header.{Header}
use Rattle.rules.specs.declared.Level.{Level}
use Rattle.rules.specs.declared.Slot.{Slot}
use Rattle.rules.proofs.Basics.Lists.{first_of-some, first_of-none, given-some, given-none, empty-none, none-empty, empty-some, select_in, select-every}
use Rattle.rules.proofs.Basics.Lists.{in_select, flat_map_in, in_flat_map, Ascending, ascending-select, ascending-before, ascending_compare}
use Rattle.rules.proofs.Basics.Tests.{Tells}
use Rattle.rules.proofs.Words.Levels.{interim-named}
use Rattle.rules.proofs.Words.SlotsInUse.{Lower, levels_ascend, slot_of_level, slots_of_level, slots_of_levels_ascend}
use Rattle.rules.proofs.Places.Placings.{some-place, none-somewhere}
use Rattle.rules.proofs.Tables.Twins.{before_once}

module _ (s : State) where
  interim-slot : (x : Slot) → In x (interim_slots s) → InUse s x × (x.level ≡ interim)
  unfolding interim_slots
  interim-slot x i =
      let r = flat_map_in slots_of (select (λ (l : Level). eqb l.name interim) (levels_in_use s)) x i in
      let l = select_in (λ (l : Level). eqb l.name interim) (levels_in_use s) r.0 r.1 in
      let q = slot_of_level r.0 x r.2 in
      (record { level = r.0; used = l.0; name = q.0; bucket = q.1; slot = q.2 }, q.0 ∙ eqb-true _ _ l.1)

  -- it stands in a bucket of the interim level
  interim_range : (x : Slot) → InUse s x → x.level ≡ interim → InLevel (interim_of s) x.bucket
  interim_range x used level =
      let same = interim-named s used.level used.used (sym used.name ∙ level) in
      rw same.1 at used.bucket

  pub slot_range : (x : Slot) → In x (interim_slots s) → InLevel (interim_of s) x.bucket
  slot_range x i = let u = interim-slot x i in interim_range x u.0 u.1

  slot-interim : (x : Slot) → InUse s x → x.level ≡ interim → In x (interim_slots s)
  unfolding interim_slots
  slot-interim x u e =
      in_flat_map slots_of (in_select (λ (l : Level). eqb l.name interim) u.used (eq-eqb _ _ (sym u.name ∙ e)))
      (slots_of_level u.level x u.name u.bucket u.slot)

  interim_ascends : Ascending Before (interim_slots s)
  unfolding interim_slots
  interim_ascends = slots_of_levels_ascend (select (λ (l : Level). eqb l.name interim) (levels_in_use s))
      (ascending-select Lower (λ (l : Level). eqb l.name interim) (levels_in_use s) (levels_ascend s))

module _ (t : Table) where
  pub interim-item : (x : Slot) → In x (interim_items t (header_of t)) ↔ InterimItem t x
  unfolding interim_items
  interim-item x = (
    λ i.
        let r = select_in (taken t (header_of t)) (interim_slots (header_of t).state) x i in
        let u = interim-slot (header_of t).state x r.0 in
        record { item = record { used = u.0; shown = r.1 }; level = u.1 },
    λ u. in_select (taken t (header_of t)) (slot-interim (header_of t).state x u.item.used u.level) u.item.shown,
  )

  items_ascend : Ascending Before (interim_items t (header_of t))
  unfolding interim_items
  items_ascend = ascending-select Before (taken t (header_of t)) (interim_slots (header_of t).state) (interim_ascends (header_of t).state)

  pub interim-empty : Tells (empty (interim_items t (header_of t))) (NoInterim t)
  interim-empty = (λ e x u. empty-none _ e x ((interim-item x).1 u), λ n. none-empty _ (λ x i. n x ((interim-item x).0 i)))

  pub interim_left : empty (interim_items t (header_of t)) ≡ false → (x : Slot) × InterimItem t x
  interim_left e = let r = empty-some _ e in (r.0, (interim-item r.0).0 r.1)

  pub item_range : (x : Slot) → InterimItem t x → InLevel (interim_of (header_of t).state) x.bucket
  item_range x item = interim_range (header_of t).state x item.item.used item.level

  -- its bucket, "counted from 0 in the level"
  pub bucket-counted : (x : Slot) → InterimItem t x
      → (size_of (interim_of (header_of t).state) - 1 + interim_bucket (header_of t).state x ≡ x.bucket)
      × (interim_bucket (header_of t).state x < size_of (interim_of (header_of t).state))
  unfolding interim_bucket
  bucket-counted x item =
      let r = item_range x item in
      let some = pow_pos (interim_of (header_of t).state).exponent in
      (omega (arith, r.0), omega (arith, r.0, r.1, some))

-- how many buckets it has, by the phase
pub interim-size : (t : Table) → interim_size t ≡ size_of (interim_of (header_of t).state)
unfolding interim_of shrinking
interim-size t = go (eqb (header_of t).state.phase 2)
  where
    go : (b : Bool) → cond b (2 * 2 ^ (header_of t).state.k) (2 ^ ((header_of t).state.k - 2))
        ≡ 2 ^ cond b ((header_of t).state.k + 1) ((header_of t).state.k - 2)
    go true = let double : 2 ^ ((header_of t).state.k + 1) ≡ 2 ^ (header_of t).state.k * 2 ^ 1 = pow-add 2 (header_of t).state.k 1 in omega arith
    go false = refl

-- ---- from bucket b on

module _ (t : Table) (b : ℕ) where
  from-item : (x : Slot) → In x (items_from t (header_of t) b) ↔ InterimFrom t b x
  unfolding items_from
  from-item x = (
    λ i.
        let r = select_in (λ (y : Slot). leb b (interim_bucket (header_of t).state y)) (interim_items t (header_of t)) x i in
        let item = (interim-item t x).0 r.0 in
        let c = bucket-counted t x item in
        record { item = item; start = omega (arith, interim-size t, c.0, leb-true b _ r.1) },
    λ u.
        let c = bucket-counted t x u.item in
        in_select (λ (y : Slot). leb b (interim_bucket (header_of t).state y)) ((interim-item t x).1 u.item)
        (le-leb b _ (omega (arith, interim-size t, c.0, u.start))),
  )

  from_ascends : Ascending Before (items_from t (header_of t) b)
  unfolding items_from
  from_ascends = ascending-select Before (λ (y : Slot). leb b (interim_bucket (header_of t).state y)) (interim_items t (header_of t)) (items_ascend t)

  -- the item that a step takes
  pub step-item : (x : Slot) → step_item t (header_of t) b ≡ some x → FirstWithPlace t (InterimFrom t b) x
  unfolding step_item has_place
  step-item x e =
      let h = header_of t in
      let f = first_of-some (λ (y : Slot). given (has_place t h y) y) (items_from t h b) x e in
      let g = given-some (has_place t h f.found) f.found x f.gives in
      record {
        item = (from-item x).0 (rw g.1 at f.inside);
        place = some-place t h (key_in t x) _ (rw g.1 at g.0) refl;
        earlier = λ y i k.
            let among = ascending-before Before before_once f.earlier f.found f.later (rw f.split at from_ascends) y
            (rw f.split at ((from-item y).1 i)) (rw g.1 k) in
            none-somewhere t h (key_in t y) _ (given-none (has_place t h y) y (f.before y among)) refl;
      }

  pub from_empty : Tells (empty (items_from t (header_of t) b)) (None (InterimFrom t b))
  from_empty = (λ e x u. empty-none _ e x ((from-item x).1 u), λ n. none-empty _ (λ x i. n x ((from-item x).0 i)))

  pub from_left : empty (items_from t (header_of t) b) ≡ false → (x : Slot) × InterimFrom t b x
  from_left e = let r = empty-some _ e in (r.0, (from-item r.0).0 r.1)

  pub no_step-item : step_item t (header_of t) b ≡ none → (x : Slot) → InterimFrom t b x → NoPlaceFor t (header_of t) (key_in t x)
  unfolding step_item has_place
  no_step-item e x i =
      let h = header_of t in
      let f = first_of-none (λ (y : Slot). given (has_place t h y) y) (items_from t h b) e x ((from-item x).1 i) in
      none-somewhere t h (key_in t x) _ (given-none (has_place t h x) x f) refl

  -- there is one first item that has a place
  pub first_one : (x y : Slot) → FirstWithPlace t (InterimFrom t b) x → FirstWithPlace t (InterimFrom t b) y → x ≡ y
  first_one x y f g = go (ascending_compare Before (items_from t (header_of t) b) from_ascends x y ((from-item x).1 f.item) ((from-item y).1 g.item))
    where
      go : (x ≡ y) ⊎ (Before x y ⊎ Before y x) → x ≡ y
      go (inl e) = e
      go (inr (inl k)) = absurd (f.place (g.earlier x f.item k))
      go (inr (inr k)) = absurd (g.place (f.earlier y g.item k))

  -- and it is the one that a step takes
  pub first-item : (x : Slot) → FirstWithPlace t (InterimFrom t b) x → step_item t (header_of t) b ≡ some x
  first-item x f = go (step_item t (header_of t) b) refl
    where
      go : (o : Option Slot) → step_item t (header_of t) b ≡ o → o ≡ some x
      go none q = absurd (f.place (no_step-item q x f.item))
      go (some y) q = ap some (first_one y x (step-item y q) f)

-- ---- from bucket 0 on: all of them

pub items_all : (t : Table) (h : Header) → items_from t h 0 ≡ interim_items t h
unfolding items_from
items_all t h = select-every _ (interim_items t h) (λ x i. le-leb 0 (interim_bucket h.state x) (omega arith))

module _ (t : Table) where
  pub from_zero : (x : Slot) → InterimFrom t 0 x ↔ InterimItem t x
  from_zero x = (λ u. u.item, λ item. record { item = item; start = omega (arith, interim-size t, (item_range t x item).0) })

  pub first-from_zero : (x : Slot) → FirstWithPlace t (InterimItem t) x → FirstWithPlace t (InterimFrom t 0) x
  first-from_zero x f = record { item = (from_zero x).1 f.item; place = f.place; earlier = λ y u k. f.earlier y u.item k }
