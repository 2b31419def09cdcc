-- What the loops that fill the second table lean on: what a table may still take when some items have gone into it, and what the whole filling is
-- from there on.
-- Assumes nothing.
use Prim.Native.Nat.{ℕ, zero, suc, ◌+◌, ◌-◌, ◌≤◌, ◌<◌}
use mathlib.Core.Path.{◌≡◌, refl, sym, ap, ◌∙◌}
use mathlib.Core.List.{List, [], ◌∷◌, ◌++◌, map, flat_map, foldl, foldl-append}
use mathlib.Core.List.Memᴰ
use mathlib.Core.List.Memᴰ.{head as here}
use mathlib.Core.List.{Memᴰ as In}
use mathlib.Core.Bool.{Bool, true, false}
use lib.ListN.{length, drop}
use Rattle.rules.specs.Choice.{from}
use Rattle.rules.specs.Words.{Table, header_of, size_of, buckets_of, levels_in_use, place_at, slots_of, slots_in_use, slot_at, slots_in, key_in, record_in, token_of}
use Rattle.rules.specs.Words.{is_taken, taken}
use Rattle.rules.specs.Calls.{insert_in, outcome}
use Rattle.rules.specs.Conversions.{Filling, filled, with_item}
use Rattle.rules.specs.declared.State.{State}
use Rattle.rules.specs.declared.Header.{Header}
use Rattle.rules.specs.declared.Level.{Level}
use Rattle.rules.specs.declared.Place.{Place}
use Rattle.rules.specs.declared.Slot.{Slot}
use Rattle.rules.specs.declared.Record.{Record}
use Rattle.rules.specs.declared.Lookup.{Lookup}
use Rattle.rules.specs.declared.Lookup.TheVariants.{Absent}
use Rattle.rules.proofs.Basics.Walks.{slots_next, from_next, from_end}
use Rattle.rules.proofs.Basics.Lists.{select_append, ascending-tells, ascending-told, ascending-parts}
use Rattle.rules.proofs.Places.Lookups.{lookup_unknown}
use Rattle.rules.proofs.Calls.Passing.{passes}
use Rattle.rules.proofs.Calls.Filling.{Apart, Filled, FillsTo, fill_all, stuck-stays, later-absent}
use Rattle.converting.specs.Fillings.{Progress, items_in, Unsought, PutIn, MayTake, Fills}
use Rattle.std.specs.Prelude.{Ok, Err}

module _ (t : Table) (to : Header) where
  apart_of : (u : Table) (xs : List Slot) → MayTake t to u xs → Apart t xs
  apart_of u xs m = ascending-told _ xs m.apart

  module _ (u : Table) (xs ys : List Slot) (m : MayTake t to u (xs ++ ys)) where
    abbrev Parts : Type 0
    Parts = Apart t xs × Apart t ys × ((x y : Slot) → In x xs → In y ys → key_in t x ≡ key_in t y → ⊥)

    parts : Parts
    parts = ascending-parts _ xs ys (apart_of u (xs ++ ys) m)

    -- it may take the first of them
    pub may_front : MayTake t to u xs
    may_front = record {
      map = m.map;
      given = m.given;
      header = m.header;
      apart = ascending-tells _ xs parts.0;
      free = λ x i. m.free x (Memᴰ.append_left ys i);
    }

    -- when these have gone into it, it may take the others
    pub may_after : (v : Table) → foldl (with_item t) (filled u) xs ≡ filled v → MayTake t to v ys
    may_after v e =
        let all : FillsTo t u m.map xs (foldl (with_item t) (filled u) xs) = fill_all t xs u m.map m.given parts.0
        (λ x i. m.free x (Memᴰ.append_left ys i)) in
        let f : Filled t u m.map xs v = rw e at all in
        record {
          map = f.map;
          given = f.given;
          header = m.header ∙ sym f.header;
          apart = ascending-tells _ ys parts.1;
          free = λ y j. later-absent t u m.map xs v f (key_in t y) (m.free y (Memᴰ.append_right xs j)) (λ x i. parts.2 x y i j);
        }

  -- the key of the first is not there, so that its insert need not look for it
  unsought : (u : Table) (x : Slot) (xs : List Slot) → MayTake t to u (x ∷ xs) → Unsought u to (key_in t x) (record_in t x)
  unfolding outcome
  unsought u x xs m =
      let g = m.given in
      let key = key_in t x in
      let absent = lookup_unknown u m.map g.sound g.map key (m.free x (here refl)) in
      record {
        headed = record { own = m.header; good = rw m.header g.sound.orderly.header };
        absent = passes u m.map 20 g _ ∙ ap (λ (f : Lookup). insert_in u (header_of u) f key (record_in t x)) absent.1
            ∙ ap (λ (h : Header). insert_in u h (Absent 0) key (record_in t x)) (sym m.header);
      }

  -- ---- a loop: all items xs₀ are to go into u₀, and when some have and it is u, the items xs are left

  pub record Left (u₀ : Table) (xs₀ : List Slot) (u : Table) (xs : List Slot) : Type 0 where
    pub same : foldl (with_item t) (filled u₀) xs₀ ≡ foldl (with_item t) (filled u) xs
    pub may : MayTake t to u xs
    pub long : length u ≡ length u₀

  module _ (u₀ : Table) (xs₀ : List Slot) where
    pub left_whole : MayTake t to u₀ xs₀ → Left u₀ xs₀ u₀ xs₀
    left_whole m = record { same = refl; may = m; long = refl }

    left_none : (u : Table) → Left u₀ xs₀ u [] → Fills t u₀ xs₀ (Ok tt) u
    left_none u l = record { filling = sym l.same; long = l.long }

    module _ (u : Table) (xs ys : List Slot) (left : Left u₀ xs₀ u (xs ++ ys)) where
      halves : foldl (with_item t) (filled u₀) xs₀ ≡ foldl (with_item t) (foldl (with_item t) (filled u) xs) ys
      halves = left.same ∙ foldl-append (with_item t) (filled u) xs ys

      -- the first of them have gone into it
      pub left_others : (v : Table) → Fills t u xs (Ok tt) v → Left u₀ xs₀ v ys
      left_others v f = record {
        same = halves ∙ ap (λ (z : Filling). foldl (with_item t) z ys) (sym f.filling);
        may = may_after u xs ys left.may v (sym f.filling);
        long = f.long ∙ left.long;
      }

      -- one of them has found no place, and so the others play no part
      pub left_stuck : (key : ℕ) (v : Table) → Fills t u xs (Err key) v → Fills t u₀ xs₀ (Err key) v
      left_stuck key v f =
          record {
            filling = sym (halves ∙ ap (λ (z : Filling). foldl (with_item t) z ys) (sym f.filling) ∙ stuck-stays t key ys);
            long = f.long ∙ left.long;
          }

-- the item of one slot, whose key and record were read
module _ (t u : Table) (x : Slot) (key : ℕ) (r : Record) (k : key ≡ key_in t x) (e : r ≡ record_in t x) where
  pub item_unsought : (to : Header) (xs : List Slot) → MayTake t to u (x ∷ xs) → Unsought u to key r
  item_unsought to xs m = rw (k, e) (unsought t to u x xs m)

  pub put_fills : (p : Progress) (v : Table) → PutIn u key r p v → Fills t u (x ∷ []) p v
  put_fills p v d = let f : PutIn u (key_in t x) (record_in t x) p v = rw (k, e) at d in record { filling = f.filling; long = f.long }

-- ---- the taken ones of slots, along a list

module _ (t : Table) (h : Header) where
  items_taken : (x : Slot) (xs : List Slot) → taken t h x ≡ true → items_in t h (x ∷ xs) ≡ x ∷ items_in t h xs
  unfolding items_in
  items_taken x xs e = rw e

  items_free : (x : Slot) (xs : List Slot) → taken t h x ≡ false → items_in t h (x ∷ xs) ≡ items_in t h xs
  unfolding items_in
  items_free x xs e = rw e

  pub items_join : (xs ys : List Slot) → items_in t h (xs ++ ys) ≡ items_in t h xs ++ items_in t h ys
  unfolding items_in
  items_join xs ys = select_append (taken t h) xs ys

  -- where no slot is left, all items have gone into it
  pub none_left : (to : Header) (u₀ : Table) (xs₀ : List Slot) (u : Table) (xs : List Slot) → xs ≡ [] → Left t to u₀ xs₀ u (items_in t h xs)
      → Fills t u₀ xs₀ (Ok tt) u
  unfolding items_in
  none_left to u₀ xs₀ u xs e l = let m : Left t to u₀ xs₀ u (items_in t h []) = rw e at l in left_none t to u₀ xs₀ u m

  module _ (to : Header) (u₀ : Table) (xs₀ : List Slot) (u : Table) (p : Place) (s : ℕ) (small : s < 4) (w : ℕ) (token : w ≡ token_of t p.bucket)
      (left : Left t to u₀ xs₀ u (items_in t h (drop s (slots_in p)))) where
    -- slot s is the next
    first : items_in t h (drop s (slots_in p)) ≡ items_in t h (slot_at p s ∷ drop (s + 1) (slots_in p))
    first = ap (items_in t h) (slots_next p s small)

    slot-taken : (b : Bool) → b ≡ is_taken h w s → taken t h (slot_at p s) ≡ b
    unfolding taken slot_at
    slot-taken b e = rw (← token) (sym e)

    -- where it is taken, its item is the first that is left
    pub slot-first : is_taken h w s ≡ true → Left t to u₀ xs₀ u ((slot_at p s ∷ []) ++ items_in t h (drop (s + 1) (slots_in p)))
    slot-first e =
        rw (first ∙ items_taken (slot_at p s) (drop (s + 1) (slots_in p)) (slot-taken true (sym e))) at left

    -- where it is free, the items of the other slots are
    pub slot_skipped : is_taken h w s ≡ false → Left t to u₀ xs₀ u (items_in t h (drop (s + 1) (slots_in p)))
    slot_skipped e = rw (first ∙ items_free (slot_at p s) (drop (s + 1) (slots_in p)) (slot-taken false (sym e))) at left

-- ---- the slots of several buckets or levels, from the i-th on

module _ {A : Type 0} (g : A → List Slot) (l : List A) where
  pub slots_along : ℕ → List Slot
  slots_along i = flat_map g (drop i l)

  pub along_whole : slots_along 0 ≡ flat_map g l
  unfolding slots_along
  along_whole = refl

  pub along_next : (i : ℕ) (x : A) → drop i l ≡ x ∷ drop (i + 1) l → slots_along i ≡ g x ++ slots_along (i + 1)
  unfolding slots_along flat_map
  along_next i x e = ap (flat_map g) e

  pub along_end : (i : ℕ) → drop i l ≡ [] → slots_along i ≡ []
  unfolding slots_along flat_map
  along_end i e = ap (flat_map g) e

-- the buckets of a level
abbrev pub places_on : Level → ℕ → List Place
places_on l size = map (place_at l) (from (size - 1) size)

drop_map : {A B : Type 0} (f : A → B) (i : ℕ) (l : List A) → drop i (map f l) ≡ map f (drop i l)
drop_map f zero l = refl
drop_map f (suc i) [] = refl
drop_map f (suc i) (x ∷ xs) = drop_map f i xs

module _ (l : Level) (size : ℕ) where
  pub level-whole : size ≡ size_of l → slots_of l ≡ slots_along slots_in (places_on l size) 0
  unfolding slots_of buckets_of slots_along
  level-whole e = rw e

  pub bucket-next : (i : ℕ) → i < size → drop i (places_on l size) ≡ place_at l (size - 1 + i) ∷ drop (i + 1) (places_on l size)
  bucket-next i h =
      rw (drop_map (place_at l) i (from (size - 1) size), drop_map (place_at l) (i + 1) (from (size - 1) size))
      (ap (map (place_at l)) (from_next (size - 1) size i h))

  pub bucket-end : (i : ℕ) → size ≤ i → drop i (places_on l size) ≡ []
  bucket-end i h = rw (drop_map (place_at l) i (from (size - 1) size)) (ap (map (place_at l)) (from_end (size - 1) size i h))

pub levels_whole : (s : State) → slots_in_use s ≡ slots_along slots_of (levels_in_use s) 0
unfolding slots_in_use slots_along
levels_whole s = refl

-- before the first, all are left
pub all_left : (t : Table) (h to : Header) (u : Table) (xs ys : List Slot) → xs ≡ ys → MayTake t to u (items_in t h xs)
    → Left t to u (items_in t h xs) u (items_in t h ys)
all_left t h to u xs ys e m = rw (← e) (left_whole t to u (items_in t h xs) m)

-- a block of slots is the first that is left
module _ (t : Table) (h to : Header) (u₀ : Table) (xs₀ : List Slot) (u : Table) (xs ys zs : List Slot) (e : xs ≡ ys ++ zs)
    (left : Left t to u₀ xs₀ u (items_in t h xs)) where
  block_left : Left t to u₀ xs₀ u (items_in t h ys ++ items_in t h zs)
  block_left = rw (ap (items_in t h) e ∙ items_join t h ys zs) at left

  pub block_may : MayTake t to u (items_in t h ys)
  block_may = may_front t to u (items_in t h ys) (items_in t h zs) block_left.may

  pub block_done : (v : Table) → Fills t u (items_in t h ys) (Ok tt) v → Left t to u₀ xs₀ v (items_in t h zs)
  block_done = left_others t to u₀ xs₀ u (items_in t h ys) (items_in t h zs) block_left

  pub block_stuck : (key : ℕ) (v : Table) → Fills t u (items_in t h ys) (Err key) v → Fills t u₀ xs₀ (Err key) v
  block_stuck = left_stuck t to u₀ xs₀ u (items_in t h ys) (items_in t h zs) block_left
