-- An item's other copies are not looked for among all taken slots: the lookup of its key ends at one of them, in at most six
-- buckets. Where each taken slot stands "in a place of its key" this finds no pair, one or more where the rules' list of pairs has
-- none, one or more, and the same one; so recovery finds the same.
-- Assumes nothing.
use Prim.Native.Nat.{ℕ, ◌<◌}
use mathlib.Core.Path.{◌≡◌, refl, sym, ap, ◌∙◌}
use mathlib.Core.Bool.{Bool, true, false, cond}
use mathlib.Core.List.Memᴰ
use mathlib.Core.List.Memᴰ.{head as here}
use mathlib.Core.List.{List, [], ◌∷◌, map, flat_map, Memᴰ as In}
use mathlib.Core.Logic.Iff
use mathlib.Core.Logic.{◌⊎◌, ⊎_elim, inl, inr}
use mathlib.Core.Option.{Option, none, some}
use native.Mathlib.Omega.{arith}
use lib.ListN.{length}
use Rattle.rules.specs.Choice.{all}
use Rattle.rules.specs.Words.{Table, GoodHeader, GoodState, header_of, place_of, key_in}
use Rattle.rules.specs.Places.{fits, same_place, places_of, lookup}
use Rattle.rules.specs.Soundness.{taken_slots, TakenSlot, in_place, Before, twins, when_still, when_flagged}
use Rattle.scanning.specs.Copying.{is_before, in_order, same_slot, copy_at, copies_of}
use Rattle.rules.specs.declared.Place.{Place}
use Rattle.rules.specs.declared.Slot.{Slot}
use Rattle.rules.specs.declared.Lookup.{Lookup}
use Rattle.rules.specs.declared.Lookup.TheVariants.{Stands, Absent}
use Rattle.rules.specs.declared.Finding.TheVariants.{Neither}
use Rattle.rules.proofs.Basics.Lists.{never, flat_map_in, in_flat_map, ascending_flat_map, NoRepeat}
use Rattle.rules.proofs.Basics.Tests.{Tells, tells_lt, tells_eq, tells_and, tells_or, tells_all, tells-any}
use Rattle.scanning.proofs.Alike.{Alike, Two, alike_parts}
use Rattle.rules.proofs.Words.FreeSlots.{slot-place}
use Rattle.rules.proofs.Places.PlacesInUse.{same-place-tells, slot_by_bucket, in_place_lem}
use Rattle.rules.proofs.Tables.Twins.{before_once, before-apart, taken_in_lem, in_taken, taken-apart, taken_compare, Twins, twins-ordered, twins-apart}
use Rattle.rules.proofs.Tables.Twins.{same_or_twins}
use Rattle.rules.proofs.Places.Lookups.{stands_one, Tidied, tag_fits, lookup-stands, lookup-sees, holder_among, holder_taken}

-- ---- the order of slots as a test

before-tells : (x y : Slot) → Tells (is_before x y) (Before x y)
unfolding is_before
before-tells x y = tells_or _ _ (tells_lt _ _) (tells_and _ _ (tells_eq _ _) (tells_or _ _ (tells_lt _ _) (tells_and _ _ (tells_eq _ _) (tells_lt _ _))))

-- of two pairs that are one, put in order: their first slots are one, or the pairs cross over
in_order-one : (a b c d : Slot) → in_order a b ≡ in_order c d → (a ≡ c) ⊎ ((a ≡ d) × (b ≡ c))
unfolding in_order
in_order-one a b c d e = go (is_before a b) (is_before c d) e
  where
    go : (p q : Bool) → ◌≡◌ {A = Slot × Slot} (cond p (a, b) (b, a)) (cond q (c, d) (d, c)) → (a ≡ c) ⊎ ((a ≡ d) × (b ≡ c))
    go true true e = inl (ap (λ (u : Slot × Slot). u.0) e)
    go true false e = inr (ap (λ (u : Slot × Slot). u.0) e, ap (λ (u : Slot × Slot). u.1) e)
    go false true e = inr (ap (λ (u : Slot × Slot). u.1) e, ap (λ (u : Slot × Slot). u.0) e)
    go false false e = inl (ap (λ (u : Slot × Slot). u.1) e)

in_order-first : (x y : Slot) → Before x y → in_order x y ≡ (x, y)
unfolding in_order
in_order-first x y b = rw ((before-tells x y).1 b)

in_order-last : (x y : Slot) → Before y x → in_order x y ≡ (y, x)
unfolding in_order
in_order-last x y b = go (is_before x y) refl
  where
    go : (p : Bool) → is_before x y ≡ p → ◌≡◌ {A = Slot × Slot} (cond p (x, y) (y, x)) (y, x)
    go true e = absurd (before_once x y ((before-tells x y).0 e) b)
    go false e = refl

-- ---- the copies of an item

same-tells : (x y : Slot) → Tells (same_slot x y) ((x.bucket ≡ y.bucket) × (x.slot ≡ y.slot))
unfolding same_slot
same-tells x y = tells_and _ _ (tells_eq _ _) (tells_eq _ _)

same_self : (x : Slot) → same_slot x x ≡ true
same_self x = (same-tells x x).1 (refl, refl)

-- all that are found, for each taken slot in order
unfoldable pub copies : Table → List (Slot × Slot)
copies t = flat_map (copies_of t (header_of t)) (taken_slots t)

module _ (t : Table) where
  -- the lookup of slot x's key ends in slot y
  Ends : Slot → Slot → Type 0
  Ends x y = (n : ℕ) × (lookup t (header_of t) (key_in t x) ≡ Stands y n)

  -- then y is taken with the same key
  ends-taken : (x y : Slot) → Ends x y → TakenSlot t y × (key_in t y ≡ key_in t x)
  unfolding Ends
  ends-taken x y e = holder_taken t (key_in t x) y (lookup-stands t (key_in t x) y e.0 e.1).0

  -- slots with one key have one end
  ends-one : (a b x y : Slot) → key_in t a ≡ key_in t b → Ends a x → Ends b y → x ≡ y
  unfolding Ends
  ends-one a b x y k e f = (stands_one x y e.0 f.0 (sym e.1 ∙ ap (lookup t (header_of t)) k ∙ f.1)).0

  -- a slot where the lookup of its own key ends is "in a place of its key"
  pub itself_in_place : (x y : Slot) (n : ℕ) → lookup t (header_of t) (key_in t x) ≡ Stands y n → same_slot x y ≡ true → in_place t x ≡ true
  unfolding in_place place_of
  itself_in_place x y n q e =
      let s = (lookup-stands t (key_in t x) y n q).0 in
      let same = ap (λ (p : Place). p.bucket) (slot-place s.place y s.here) in
      (tells-any (same_place (place_of x)) _ (same-place-tells (place_of x)) (places_of (header_of t) (key_in t x))).1
      (s.place, holder_among t (key_in t x) y s, ((same-tells x y).0 e).0 ∙ same)

  -- a copy that is found: where the lookup ends, which is elsewhere
  copy_found : (x : Slot) (u : Slot × Slot) → In u (copies_of t (header_of t) x) → (y : Slot) × Ends x y × (same_slot x y ≡ false) × (u ≡ in_order x y)
  unfolding copies_of Ends
  copy_found x u i = go (lookup t (header_of t) (key_in t x)) refl i
    where
      at : (y : Slot) (n : ℕ) → lookup t (header_of t) (key_in t x) ≡ Stands y n → (b : Bool) → same_slot x y ≡ b → In u (cond b [] (in_order x y ∷ []))
          → (y : Slot) × Ends x y × (same_slot x y ≡ false) × (u ≡ in_order x y)
      at y n q true e i = absurd (Memᴰ.not-nil i)
      at y n q false e i = (y, (n, q), e, Memᴰ.eq_of_singleton i)

      go : (o : Lookup) → lookup t (header_of t) (key_in t x) ≡ o → In u (copy_at x o) → (y : Slot) × Ends x y × (same_slot x y ≡ false) × (u ≡ in_order x y)
      go (Stands y n) q i = at y n q (same_slot x y) refl i
      go (Absent n) q i = absurd (Memᴰ.not-nil i)

  -- each copy that is found is a pair of the rules
  pub copy_twins : (u : Slot × Slot) → In u (copies t) → In u (twins t)
  unfolding copies
  copy_twins u i =
      let r = flat_map_in (copies_of t (header_of t)) (taken_slots t) u i in
      let x = r.0 in
      let f = copy_found x u r.2 in
      let y = f.0 in
      let e = ends-taken x y f.1 in
      Memᴰ.cast f.3
      (⊎_elim (λ (s : x ≡ y). never (same_self x) (rw (← s) at f.2))
      (⊎_elim (λ (j : In {A = Slot × Slot} (x, y) (twins t)). Memᴰ.cast (in_order-first x y (twins-ordered t x y j).order) j)
      (λ (j : In {A = Slot × Slot} (y, x) (twins t)). Memᴰ.cast (in_order-last x y (twins-ordered t y x j).order) j))
      (same_or_twins t x y (taken_in_lem t x r.1) e.0 (sym e.1)))

  copies_apart : NoRepeat (copies t)
  unfolding copies copies_of
  copies_apart = ascending_flat_map _ _ (copies_of t (header_of t)) (taken_slots t) (taken-apart t) one crossed
    where
      few : (b : Bool) (u : Slot × Slot) → NoRepeat (cond b [] (u ∷ []))
      few true u = tt
      few false u = (λ v i. absurd (Memᴰ.not-nil i), tt)

      at : (x : Slot) (o : Lookup) → NoRepeat (copy_at x o)
      at x (Stands y n) = few (same_slot x y) (in_order x y)
      at x (Absent n) = tt

      one : (x : Slot) → NoRepeat (copies_of t (header_of t) x)
      one x = at x (lookup t (header_of t) (key_in t x))

      crossed : (x y : Slot) → (x ≡ y → ⊥) → (u v : Slot × Slot) → In u (copies_of t (header_of t) x) → In v (copies_of t (header_of t) y) → u ≡ v → ⊥
      crossed x y d u v i j e =
          let f = copy_found x u i in
          let g = copy_found y v j in
          ⊎_elim d
          (λ (c : (x ≡ g.0) × (f.0 ≡ y)).
          let k = (ends-taken x f.0 f.1).1 in
          let own = ends-one y x g.0 f.0 (ap (key_in t) (sym c.1) ∙ k) g.1 f.1 in
          never (same_self y) (rw (own ∙ c.1) at g.2))
          (in_order-one x f.0 y g.0 (sym f.3 ∙ e ∙ g.3))

  -- ---- where each taken slot has a tag that fits its key, and is "in a place of its key"

  module _ (c : ℕ) (good : GoodState c (header_of t).state) (fitting : (x : Slot) → TakenSlot t x → fits t (header_of t) (key_in t x) x ≡ true)
      (placed : (x : Slot) → TakenSlot t x → in_place t x ≡ true) where
    -- its lookup ends somewhere
    ends : (x : Slot) → TakenSlot t x → (y : Slot) × Ends x y
    unfolding Ends
    ends x u = go (lookup t (header_of t) (key_in t x)) refl
      where
        go : (o : Lookup) → lookup t (header_of t) (key_in t x) ≡ o → (y : Slot) × Ends x y
        go (Stands y n) q = (y, (n, q))
        go (Absent n) q = absurd (lookup-sees t x u (fitting x u) (in_place_lem c t good x u.used (placed x u)) n q)

    -- and where that is elsewhere, a copy is found
    copy_listed : (x y : Slot) → TakenSlot t x → Ends x y → (x ≡ y → ⊥) → In (in_order x y) (copies t)
    unfolding copies copies_of Ends
    copy_listed x y u e d = in_flat_map (copies_of t (header_of t)) (in_taken t x u) (rw e.1 (go (same_slot x y) refl))
      where
        go : (b : Bool) → same_slot x y ≡ b → In (in_order x y) (cond b [] (in_order x y ∷ []))
        go true q =
            let r = (same-tells x y).0 q in
            absurd (d (slot_by_bucket (header_of t).state c good x y u.used (ends-taken x y e).0.used r.0 r.1))
        go false q = here refl

    -- each pair of the rules is found, or there are two copies anyway: of more than two slots with one key each but one is a copy of
    -- that one
    twins_copy : (a b : Slot) → Twins t a b → In {A = Slot × Slot} (a, b) (copies t) ⊎ Two (copies t)
    unfolding Ends
    twins_copy a b w = first (compare a z w.first taken_z)
      where
        z : Slot
        z = (ends a w.first).0

        to_z : Ends a z
        to_z = (ends a w.first).1

        also : Ends b z
        also = (to_z.0, rw (← w.key) to_z.1)

        taken_z : TakenSlot t z
        taken_z = (ends-taken a z to_z).0

        compare : (x y : Slot) → TakenSlot t x → TakenSlot t y → (x ≡ y) ⊎ (x ≡ y → ⊥)
        compare x y u v =
            ⊎_elim inl (λ (o : Before x y ⊎ Before y x). inr
            (⊎_elim (λ (p : Before x y). before-apart x y p) (λ (p : Before y x) (e : x ≡ y). before-apart y x p (sym e)) o))
            (taken_compare t x y u v)

        second : (a ≡ z → ⊥) → (b ≡ z) ⊎ (b ≡ z → ⊥) → In {A = Slot × Slot} (a, b) (copies t) ⊎ Two (copies t)
        second n (inl e) = inl (Memᴰ.cast (sym (in_order-first a b w.order)) (rw (← e) at (copy_listed a z w.first to_z n)))
        second n (inr m) =
            inr
            (record {
              first = in_order a z;
              second = in_order b z;
              one = copy_listed a z w.first to_z n;
              other = copy_listed b z w.later also m;
              apart = λ e. ⊎_elim (before-apart a b w.order) (λ (r : (a ≡ z) × (z ≡ b)). n r.0) (in_order-one a z b z e);
            })

        first : (a ≡ z) ⊎ (a ≡ z → ⊥) → In {A = Slot × Slot} (a, b) (copies t) ⊎ Two (copies t)
        first (inl e) =
            inl (Memᴰ.cast (sym (in_order-last b a w.order)) (rw (← e) at (copy_listed b z w.later also (λ f. before-apart a b w.order (e ∙ sym f)))))
        first (inr n) = second n (compare b z w.later taken_z)

-- the search that is linear in the table finds the pairs that the rules name, or as they do more than one
pub linear : (t : Table) → GoodHeader (length t) (header_of t) → Tidied t → all (map (in_place t) (taken_slots t)) ≡ true → Alike (twins t) (copies t)
linear t g tidied e =
    alike_parts (twins t) (copies t) (twins-apart t) (copies_apart t) (copy_twins t)
    (λ u i.
    twins_copy t (header_of t).c g.state (tag_fits t g tidied)
    (λ x w. (tells_all (in_place t) _ (λ x. Iff.rfl) (taken_slots t)).0 e x (in_taken t x w)) u.0 u.1
    (twins-ordered t u.0 u.1 i))

-- ---- what recovery finds is alike

pub still_alike : (t : Table) (xs ys : List (Slot × Slot)) → Alike xs ys → when_still t xs ≡ when_still t ys
still_alike t xs ys (inl e) = ap (when_still t) e
still_alike t xs ys (inr m) = several xs m.0 ∙ sym (several ys m.1)
  where
    several : (l : List (Slot × Slot)) → 1 < length l → when_still t l ≡ Neither
    several [] m = absurd (omega arith)
    several (p ∷ []) m = absurd (omega arith)
    several (p ∷ (q ∷ l)) m = refl

pub flagged_alike : (o : Option Slot) (xs ys : List (Slot × Slot)) → Alike xs ys → when_flagged o xs ≡ when_flagged o ys
flagged_alike o xs ys (inl e) = ap (when_flagged o) e
flagged_alike o xs ys (inr m) = several o xs m.0 ∙ sym (several o ys m.1)
  where
    several : (o : Option Slot) (l : List (Slot × Slot)) → 1 < length l → when_flagged o l ≡ Neither
    several none l m = refl
    several (some x) [] m = absurd (omega arith)
    several (some x) (p ∷ l) m = refl
