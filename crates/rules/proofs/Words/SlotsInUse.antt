-- The slots of the levels in use: each by its level's name and range, all of them "by top, bottom, interim, then bucket and slot
-- ascending".
-- Assumes nothing.
use Prim.Native.Nat.{◌-◌, ◌<◌}
use mathlib.Core.Path.{◌≡◌, refl, sym, ap, ◌∙◌}
use mathlib.Core.Bool.{Bool, true, false, cond}
use mathlib.Core.List.{List, [], ◌∷◌, map, flat_map, Memᴰ as In}
use mathlib.Core.Logic.{inl, inr}
use native.Mathlib.Omega.{arith}
use lib.Pow.{pow_pos}
use Rattle.rules.specs.Words.{at_rest, size_of, top_of, bottom_of, interim_of, levels_in_use, buckets_of, slot_at, slots_in, place_of, place_at, slots_of}
use Rattle.rules.specs.Words.{slots, slots_in_use, InLevel, InUse}
use Rattle.rules.specs.Soundness.{Before}
use Rattle.rules.specs.declared.State.{State}
use Rattle.rules.specs.declared.Level.{Level}
use Rattle.rules.specs.declared.Place.{Place}
use Rattle.rules.specs.declared.Slot.{Slot}
use Rattle.rules.proofs.Basics.Lists.{map_in, in_map, flat_map_in, in_flat_map, from_in, in_from, Ascending, ascending_flat_map, ascending-map}
use Rattle.rules.proofs.Basics.Lists.{ascending_of_map, ascending-from}
use Rattle.rules.proofs.Words.FreeSlots.{slot-place}

-- an earlier level
abbrev pub Lower : Level → Level → Type 0
Lower l m = l.name < m.name

Under : Place → Place → Type 0
Under p q = (p.level ≡ q.level) × (p.bucket < q.bucket)

place_ascends : (p : Place) → Ascending Before (slots_in p)
unfolding slots_in slot_at
place_ascends p = ascending-map ◌<◌ Before (slot_at p) slots (ascending-from 0 4) (λ x y e. inr (refl, inr (refl, e)))

level_ascends : (l : Level) → Ascending Before (slots_of l)
unfolding slots_of buckets_of place_at Under place_of
level_ascends l =
    ascending_flat_map Under Before slots_in (map (place_at l) (buckets_of (size_of l)))
    (ascending-map ◌<◌ Under (place_at l) (buckets_of (size_of l)) (ascending-from (size_of l - 1) (size_of l)) (λ x y e. (refl, e))) place_ascends
    (λ p q u x y i j.
    let a = slot-place p x i in
    let b = slot-place q y j in
    inr (
      ap (λ (z : Place). z.level) a ∙ u.0
          ∙ sym (ap (λ (z : Place). z.level) b),
      inl (rw (ap (λ (z : Place). z.bucket) a, ap (λ (z : Place). z.bucket) b) u.1),
    ))

pub slot-number : (p : Place) (x : Slot) → In x (slots_in p) → x.slot < 4
unfolding slots_in slot_at
slot-number p x i =
    let r = map_in (slot_at p) slots x i in
    rw (ap (λ (z : Slot). z.slot) r.2) (omega (arith, from_in 0 4 r.0 r.1))

-- a slot of a level, by its name and range
pub slot_of_level : (l : Level) (x : Slot) → In x (slots_of l) → (x.level ≡ l.name) × InLevel l x.bucket × (x.slot < 4)
unfolding slots_of buckets_of place_at place_of
slot_of_level l x i =
    let r = flat_map_in slots_in (map (place_at l) (buckets_of (size_of l))) x i in
    let q = map_in (place_at l) (buckets_of (size_of l)) r.0 r.1 in
    let place : place_of x ≡ place_at l q.0 = slot-place r.0 x r.2 ∙ q.2 in (
      ap (λ (z : Place). z.level) place,
      rw (ap (λ (z : Place). z.bucket) place) (omega (arith, from_in (size_of l - 1) (size_of l) q.0 q.1, pow_pos l.exponent)),
      slot-number r.0 x r.2,
    )

pub slot_in_use : (s : State) (x : Slot) → In x (slots_in_use s) → InUse s x
unfolding slots_in_use
slot_in_use s x i =
    let r = flat_map_in slots_of (levels_in_use s) x i in
    let q = slot_of_level r.0 x r.2 in
    record { level = r.0; used = r.1; name = q.0; bucket = q.1; slot = q.2 }

-- and back: the slots of a place, of a level, and of the levels in use are all there
pub slots_of_place : (x : Slot) → x.slot < 4 → In x (slots_in (place_of x))
unfolding slots_in slot_at place_of
slots_of_place x h = in_map (slot_at (place_of x)) (in_from 0 4 x.slot (omega arith) (omega arith))

place_of_level : (l : Level) (x : Slot) → x.level ≡ l.name → place_of x ≡ place_at l x.bucket
unfolding place_at place_of
place_of_level l x e = λ i. record { level = e i; bucket = x.bucket }

pub slots_of_level : (l : Level) (x : Slot) → x.level ≡ l.name → InLevel l x.bucket → x.slot < 4 → In x (slots_of l)
unfolding slots_of buckets_of
slots_of_level l x name range less =
    in_flat_map slots_in (in_map (place_at l) (in_from (size_of l - 1) (size_of l) x.bucket range.0 (omega (arith, range.1, pow_pos l.exponent))))
    (rw (place_of_level l x name) at (slots_of_place x less))

pub slots_in_use_lem : (s : State) (x : Slot) → InUse s x → In x (slots_in_use s)
unfolding slots_in_use
slots_in_use_lem s x u = in_flat_map slots_of u.used (slots_of_level u.level x u.name u.bucket u.slot)

pub levels_ascend : (s : State) → Ascending Lower (levels_in_use s)
unfolding levels_in_use top_of bottom_of interim_of
levels_ascend s = go (at_rest s)
  where
    go : (b : Bool) → Ascending Lower (top_of s ∷ bottom_of s ∷ cond b [] (interim_of s ∷ []))
    go true = ascending_of_map ◌<◌ (λ (l : Level). l.name) (top_of s ∷ bottom_of s ∷ []) (ascending-from 0 2)
    go false = ascending_of_map ◌<◌ (λ (l : Level). l.name) (top_of s ∷ bottom_of s ∷ interim_of s ∷ []) (ascending-from 0 3)

-- the slots of ascending levels ascend
pub slots_of_levels_ascend : (ls : List Level) → Ascending Lower ls → Ascending Before (flat_map slots_of ls)
slots_of_levels_ascend ls a =
    ascending_flat_map Lower Before slots_of ls a level_ascends (λ l m u x y i j. inl (rw ((slot_of_level l x i).0, (slot_of_level m y j).0) u))

pub slots_ascend : (s : State) → Ascending Before (slots_in_use s)
unfolding slots_in_use
slots_ascend s = slots_of_levels_ascend (levels_in_use s) (levels_ascend s)
