-- What each kind of store list makes of a sound table and its map: a record put to a free slot, a token cleared, a record put beside the
-- one that it replaces with one token store, a record rewritten. A record that is put while another slot has its key makes a twin, and
-- clearing either of the two gives the map back.
-- Assumes nothing.
use Prim.Native.Nat.{ℕ, ◌+◌, ◌*◌, ◌≤◌, ◌<◌}
use mathlib.Core.Path.{◌≡◌, refl, sym, ap, ◌∙◌}
use mathlib.Core.Bool.{true, false}
use mathlib.Core.List.{◌++◌, Memᴰ as In}
use mathlib.Core.Logic.{◌⊎◌, inl, inr, ⊎_elim}
use mathlib.Core.Option.{none, some}
use lib.ListN.{length}
use Rattle.rules.specs.Words.{Table, GoodState, header_of, InUse, place_of, key_word, key_in, record_in, token_of, keys_of, is_taken, taken, show, hide}
use Rattle.rules.specs.Places.{places_of}
use Rattle.rules.specs.Stores.{put_stores, clear_stores, log_stores, redo_stores, made}
use Rattle.rules.specs.Soundness.{TakenSlot, OrderlyTable, SoundTable, PlainMap, HasMap}
use Rattle.rules.specs.Demands.{map_with}
use Rattle.rules.specs.declared.Place.{Place}
use Rattle.rules.specs.declared.Slot.{Slot}
use Rattle.rules.specs.declared.Record.{Record}
use Rattle.rules.proofs.Basics.Lists.{never}
use Rattle.rules.proofs.Words.Tokens.{Bit, Follows, show-bit, hide-bit, kept_follows, show_follows, hide_follows, beside_follows}
use Rattle.rules.proofs.Words.SlotsInUse.{slots_of_place}
use Rattle.rules.proofs.Places.PlacesInUse.{slot-within, place_of_slot, slot_of_place}
use Rattle.rules.proofs.Places.Lookups.{placed_in}
use Rattle.rules.proofs.Carrying.Carried.{Carry, Carried, Alone, carry_same, carried_stays, carried_stood}
use Rattle.rules.proofs.Carrying.Moving.{Nothing, Only, map_misses, set_alone, set_map, cleared_alone, cleared_map, copied_map, dropped_map}
use Rattle.rules.proofs.Carrying.Moving.{dropped_alone}
use Rattle.rules.proofs.Carrying.SlotChanged.{good-after, shown-after, put_carried, clear_carried, rewrite_carried, beside_carried}
use Rattle.rules.proofs.Carrying.SlotChanged.{written-orderly, placed-here}
use Rattle.rules.proofs.Carrying.StoreKinds.{SlotWritten, put_written, clear_written, log_written}

-- a sound table with its map
pub record SoundMap (t : Table) (m : PlainMap) : Type 0 where
  pub sound : SoundTable t
  pub map : HasMap t m

-- u is sound with the map m, and has t's header
pub record Becomes (t u : Table) (m : PlainMap) : Type 0 where
  pub whole : SoundMap u m
  pub header : header_of u ≡ header_of t

-- sound but for one key that stands in slots x and y, with its map: so their records are equal
pub record TwinMap (t : Table) (m : PlainMap) (x y : Slot) : Type 0 where
  pub orderly : OrderlyTable 0 t
  pub map : HasMap t m
  pub first : TakenSlot t x
  pub second : TakenSlot t y
  pub apart : y ≡ x → ⊥
  pub same : key_in t y ≡ key_in t x
  pub only : (a b : Slot) → TakenSlot t a → TakenSlot t b → key_in t a ≡ key_in t b
      → (a ≡ b) ⊎ (((a ≡ x) × (b ≡ y)) ⊎ ((a ≡ y) × (b ≡ x)))

-- ---- the kinds on a sound table

module _ (t : Table) (m : PlainMap) (whole : SoundMap t m) where
  orderly : OrderlyTable 0 t
  orderly = whole.sound.orderly

  -- a slot that is put, and what it leaves
  module _ (x : Slot) (here : InUse (header_of t).state x) (free : taken t (header_of t) x ≡ false) (key : ℕ) (r : Record)
      (among : In (place_of x) (places_of (header_of t) key)) where
    abbrev put : Table
    put = made t (put_stores (header_of t) (token_of t x.bucket) x key r)

    fits : 9 + 13 * x.bucket + 13 ≤ length t
    fits = (slot-within (length t) (header_of t) orderly.header x here).0

    pub put_writes : SlotWritten t put x (show (header_of t) (token_of t x.bucket) x.slot key) key r
    put_writes = put_written t x here.slot fits (header_of t) (token_of t x.bucket) key r

    bit : Bit (header_of t) (token_of t x.bucket) (show (header_of t) (token_of t x.bucket) x.slot key) x.slot true
    bit = show-bit (header_of t) (token_of t x.bucket) x.slot key here.slot

    pub put_carries : Carried t put Nothing (Only x)
    put_carries = put_carried 0 t put x _ key r orderly here put_writes bit free

    pub put-shown : TakenSlot put x
    put-shown = shown-after 0 t put x _ key r orderly here put_writes bit.here

    -- all other items stand where they stood
    pub put-stays : (y : Slot) → TakenSlot t y → TakenSlot put y × (key_in put y ≡ key_in t y) × (record_in put y ≡ record_in t y)
    put-stays y a = carried_stays t put Nothing (Only x) put_carries (header_of t).c (rw put_writes.near.header orderly.header.state)
        put_writes.near.header y a (λ g. g)

    pub put_stood : (y : Slot) → TakenSlot put y → (y ≡ x) ⊎ TakenSlot t y
    put_stood y a =
        ⊎_elim (λ (e : y ≡ x). inl e) (λ (b : (Nothing y → ⊥) × TakenSlot t y). inr b.1)
        (carried_stood t put Nothing (Only x) put_carries (header_of t).c (rw put_writes.near.header orderly.header.state)
        put_writes.near.header y a)

    put-orderly : OrderlyTable 0 put
    put-orderly =
        written-orderly 0 t put x _ key r orderly here put_writes (show_follows (header_of t) _ _ _ x.slot key here.slot) Nothing (Only x) put_carries
        (placed-here 0 t put x _ key r orderly here put_writes among)

    pub put-sound : m key ≡ none → Becomes t put (map_with m key (some r))
    put-sound absent =
        let left : (y : Slot) → TakenSlot t y → (Nothing y → ⊥) → key_in t y ≡ key_in put x → ⊥ =
        λ y a g e. map_misses t m whole.map key absent y a (e ∙ put_writes.key) in
        let good = good-after 0 t put x _ key r orderly here put_writes in
        record {
          whole = record {
            sound = record {
              orderly = put-orderly;
              alone =
                  set_alone t put (header_of t).c good m whole.map Nothing x put_carries put-shown (λ y a g. absurd g) left whole.sound.alone;
            };
            map = rw (
              put_writes.key,
              put_writes.value,
            ) at (set_map t put (header_of t).c good m whole.map Nothing x put_carries put-shown (λ y a g. absurd g) left);
          };
          header = put_writes.near.header;
        }

    -- the key and record of slot y, which then stand twice
    module _ (y : Slot) (there : TakenSlot t y) (same_key : key_in t y ≡ key) (same_record_lem : record_in t y ≡ r) where
      Pairs : Slot → Slot → Type 0
      Pairs a b = (a ≡ b) ⊎ (((a ≡ y) × (b ≡ x)) ⊎ ((a ≡ x) × (b ≡ y)))

      good-put : GoodState (header_of t).c (header_of put).state
      good-put = good-after 0 t put x _ key r orderly here put_writes

      same-slot : (w z : Slot) → Carry t put w z → z ≡ w
      same-slot w z k = carry_same (header_of t).c t put good-put put_writes.near.header w z k

      -- a carried slot with the key is y
      carried_twin : (w z : Slot) → Carry t put w z → key_in put z ≡ key_in put x → z ≡ y
      carried_twin w z k e = same-slot w z k ∙ whole.sound.alone w y k.before there (sym k.key ∙ e ∙ put_writes.key ∙ sym same_key)

      only-pairs : (a b : Slot) → key_in put a ≡ key_in put b
          → Only x a ⊎ ((w : Slot) × (Nothing w → ⊥) × Carry t put w a)
          → Only x b ⊎ ((w : Slot) × (Nothing w → ⊥) × Carry t put w b) → Pairs a b
      unfolding Pairs
      only-pairs a b e (inl n) (inl k) = inl (n ∙ sym k)
      only-pairs a b e (inl n) (inr (w, g, k)) = inr (inr (n, carried_twin w b k (sym e ∙ ap (key_in put) n)))
      only-pairs a b e (inr (w, g, k)) (inl n) = inr (inl (carried_twin w a k (e ∙ ap (key_in put) n), n))
      only-pairs a b e (inr (w, g, k)) (inr (z, f, l)) =
          let one = whole.sound.alone w z k.before l.before (sym k.key ∙ e ∙ l.key) in
          inl (same-slot w a k ∙ one ∙ sym (same-slot z b l))

      pub put_twin : TwinMap put m y x
      unfolding Pairs
      put_twin =
          let still = put-stays y there in
          record {
            orderly = put-orderly;
            map = copied_map t put (header_of t).c good-put m whole.map x put_carries
                (rw (put_writes.key, put_writes.value) (rw (same_key, same_record_lem) at (whole.map.stands y there)));
            first = still.0;
            second = put-shown;
            apart = λ e. never there.shown (rw e at free);
            same = put_writes.key ∙ sym same_key ∙ sym still.1;
            only = λ a b p q e. only-pairs a b e (put_carries.back a p) (put_carries.back b q);
          }

-- ---- a token cleared

module _ (t : Table) (o : OrderlyTable 0 t) (x : Slot) (there : TakenSlot t x) where
  abbrev cleared : Table
  cleared = made t (clear_stores (header_of t) (token_of t x.bucket) x)

  pub clear_writes : SlotWritten t cleared x (hide (header_of t) (token_of t x.bucket) x.slot) (key_in t x) (record_in t x)
  clear_writes = clear_written t x there.used.slot (slot-within (length t) (header_of t) o.header x there.used).0 (header_of t) (token_of t x.bucket)

  pub clear_bit : Bit (header_of t) (token_of t x.bucket) (hide (header_of t) (token_of t x.bucket) x.slot) x.slot false
  clear_bit = hide-bit (header_of t) (token_of t x.bucket) x.slot there.used.slot

  pub clear_carries : Carried t cleared (Only x) Nothing
  clear_carries = clear_carried 0 t cleared x _ _ _ o there.used clear_writes clear_bit

  clear_orderly : OrderlyTable 0 cleared
  clear_orderly =
      written-orderly 0 t cleared x _ _ _ o there.used clear_writes (hide_follows (header_of t) _ _ _ x.slot (key_in t x) there.used.slot)
      (Only x) Nothing clear_carries (λ z a n. absurd n)

  pub good_cleared : GoodState (header_of t).c (header_of cleared).state
  good_cleared = good-after 0 t cleared x _ _ _ o there.used clear_writes

  -- with its map
  module _ (m : PlainMap) (has : HasMap t m) where
    pub clear_sound : Alone t → Becomes t cleared (map_with m (key_in t x) none)
    clear_sound alone = record {
      whole = record {
        sound = record { orderly = clear_orderly; alone = cleared_alone t cleared (header_of t).c good_cleared m has x clear_carries alone there };
        map = cleared_map t cleared (header_of t).c good_cleared m has x clear_carries alone there;
      };
      header = clear_writes.near.header;
    }

    -- one of two with one key
    pub clear_twin : (y : Slot) → TwinMap t m x y → Becomes t cleared m
    clear_twin y w = record {
      whole = record {
        sound = record {
          orderly = clear_orderly;
          alone =
              dropped_alone t cleared (header_of t).c good_cleared m has x y clear_carries w.second w.apart w.same w.only;
        };
        map = dropped_map t cleared (header_of t).c good_cleared m has x y clear_carries w.second w.apart w.same there;
      };
      header = clear_writes.near.header;
    }

-- the other of the two
pub twin_turned : (t : Table) (m : PlainMap) (x y : Slot) → TwinMap t m x y → TwinMap t m y x
twin_turned t m x y w = record {
  orderly = w.orderly;
  map = w.map;
  first = w.second;
  second = w.first;
  apart = λ e. w.apart (sym e);
  same = sym w.same;
  only = λ a b p q e. turn a b (w.only a b p q e);
}
  where
    turn : (a b : Slot) → (a ≡ b) ⊎ (((a ≡ x) × (b ≡ y)) ⊎ ((a ≡ y) × (b ≡ x)))
        → (a ≡ b) ⊎ (((a ≡ y) × (b ≡ x)) ⊎ ((a ≡ x) × (b ≡ y)))
    turn a b (inl e) = inl e
    turn a b (inr (inl e)) = inr (inr e)
    turn a b (inr (inr e)) = inr (inl e)

-- ---- a record in the place of another with its key

pub place-bucket : (z x : Slot) → place_of z ≡ place_of x → z.bucket ≡ x.bucket
unfolding place_of
place-bucket z x e = ap (λ (p : Place). p.bucket) e

module _ (t : Table) (m : PlainMap) (whole : SoundMap t m) (x : Slot) (there : TakenSlot t x) (r : Record) where
  -- u has r in slot z, under x's key, and x's item no more
  replaced : (u : Table) (z : Slot) (v : ℕ) → InUse (header_of t).state z → SlotWritten t u z v (key_in t x) r
      → Follows (header_of t) (token_of t z.bucket) v (keys_of t z.bucket) (keys_of u z.bucket) z.slot (key_in t x)
      → is_taken (header_of t) v z.slot ≡ true
      → In (place_of z) (places_of (header_of t) (key_in t x)) → Carried t u (Only x) (Only z) → Becomes t u (map_with m (key_in t x) (some r))
  replaced u z v here writes follows bit among carried =
      let o = whole.sound.orderly in
      let good = good-after 0 t u z v (key_in t x) r o here writes in
      let now = shown-after 0 t u z v (key_in t x) r o here writes bit in
      let gone : (y : Slot) → TakenSlot t y → Only x y → key_in t y ≡ key_in u z = λ y a g. ap (key_in t) g ∙ sym writes.key in
      let left : (y : Slot) → TakenSlot t y → (Only x y → ⊥) → key_in t y ≡ key_in u z → ⊥ =
      λ y a g e. g (whole.sound.alone y x a there (e ∙ writes.key)) in
      record {
        whole = record {
          sound = record {
            orderly = written-orderly 0 t u z v (key_in t x) r o here writes follows (Only x) (Only z) carried
                (placed-here 0 t u z v (key_in t x) r o here writes among);
            alone = set_alone t u (header_of t).c good m whole.map (Only x) z carried now gone left whole.sound.alone;
          };
          map = rw (writes.key, writes.value) at (set_map t u (header_of t).c good m whole.map (Only x) z carried now gone left);
        };
        header = writes.near.header;
      }

  beside_itself : (z : Slot) → z.bucket ≡ x.bucket → x.slot ≡ z.slot → taken t (header_of t) z ≡ false → ⊥
  unfolding taken
  beside_itself z b e free = never there.shown (rw (b, ← e) at free)

  among_places : In (place_of x) (places_of (header_of t) (key_in t x))
  among_places = placed_in 0 t whole.sound.orderly x there

  -- "words 6, 7, 8; flag 1; function, place in the slot; flag 0"
  pub log_sound : Becomes t (made t (log_stores x r ++ redo_stores x r)) (map_with m (key_in t x) (some r))
  unfolding taken keys_of key_in key_word
  log_sound =
      let o = whole.sound.orderly in
      let used = there.used in
      let writes = log_written t x used.slot (slot-within (length t) (header_of t) o.header x used).0 r o.flag in
      replaced _ x (token_of t x.bucket) used writes (kept_follows (header_of t) _ _ _ x.slot _ (λ q. refl)) there.shown among_places
      (rewrite_carried 0 t _ x _ _ _ o used writes refl)

  -- "three words to its lowest free slot; one token store that sets it and clears the old"
  pub beside_sound : (z : Slot) → place_of z ≡ place_of x → z.slot < 4 → taken t (header_of t) z ≡ false
      → Becomes t (made t (put_stores (header_of t) (hide (header_of t) (token_of t x.bucket) x.slot) z (key_in t x) r)) (map_with m (key_in t x) (some r))
  beside_sound z place low free =
      let h = header_of t in
      let o = whole.sound.orderly in
      let bucket : z.bucket ≡ x.bucket = place-bucket z x place in
      let here : InUse h.state z = slot_of_place h.state (place_of x) z (place_of_slot h.state x there.used) (rw place at (slots_of_place z low)) in
      let w = hide h (token_of t x.bucket) x.slot in
      let writes = put_written t z low (slot-within (length t) h o.header z here).0 h w (key_in t x) r in
      let set = show-bit h w z.slot (key_in t x) low in
      let clear : Bit h (token_of t z.bucket) w x.slot false = rw bucket (hide-bit h (token_of t x.bucket) x.slot there.used.slot) in
      replaced _ z _ here writes (rw bucket (beside_follows h _ _ _ z.slot (key_in t x) low x.slot there.used.slot)) set.here
      (rw place among_places)
      (beside_carried 0 t _ z _ _ _ o here writes x there.used (sym bucket) w clear set free (λ e. beside_itself z bucket e free))
