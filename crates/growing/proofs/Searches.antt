-- Searches along the interim level: bucket by bucket, in each slot by slot. One finds the first taken slot, the other the first that is
-- taken by an item that has a place; this one may begin at the bucket where the first ended. Both may begin at any bucket.
-- Assumes nothing.
use Prim.Native.Nat.{ℕ, zero, suc, ◌+◌, ◌-◌, ◌*◌, ◌^◌, ◌≤◌, ◌<◌}
use mathlib.Core.Path.{◌≡◌, refl, sym, ap, ◌∙◌}
use mathlib.Core.Bool.{Bool, true, false, cond}
use mathlib.Core.List.Memᴰ.{head as here}
use mathlib.Core.List.{List, [], ◌∷◌, map, flat_map, head?, append-nil, Memᴰ as In}
use mathlib.Core.Logic.{⊎_elim}
use mathlib.Core.Option
use mathlib.Core.Option.{Option, none, some}
use native.Mathlib.Decide.{dec_le}
use native.Mathlib.Omega.{arith}
use denote.Enum.Declared.{tag_of}
use types.Run.{OneOf}
use lib.ListN.{drop}
use lib.Seq.{drop-drop}
use lib.Dec.{ltb, leb}
use borrow.Author.Tests.{ltb-true, ltb-false, lt-leb, le-leb}
use lib.Pow.{pow_mono}
use Rattle.rules.specs.Choice.{given, or_else, select, first_of, from}
use Rattle.rules.specs.Words.{Table, GoodHeader, at_rest, size_of, top_of, bottom_of, interim_of, levels_in_use, buckets_of, InLevel, slot_at, slots_in}
use Rattle.rules.specs.Words.{place_of, place_at}
use Rattle.rules.specs.Words.{slots_of, key_in, token_of, is_taken, slots, lowest, lowest_taken, taken}
use Rattle.rules.specs.Placing.{placing, somewhere}
use Rattle.rules.specs.Calls.{interim_slots, interim_items, interim_bucket, items_from, has_place, step_item}
use Rattle.rules.specs.declared.State.{State}
use Rattle.rules.specs.declared.Header.{Header}
use Rattle.rules.specs.declared.Level.{Level}
use Rattle.rules.specs.declared.Place.{Place}
use Rattle.rules.specs.declared.Slot.{Slot}
use Rattle.rules.specs.declared.Placing.{Placing}
use Rattle.rules.specs.declared.Placing.TheVariants.{Free, Move, Nowhere}
use Rattle.rules.specs.contracts.Placing.{the_type}
use Rattle.rules.proofs.Basics.Lists.{never, not_some, some_one, first_of-some, first_of-none, none-first_of, first_of-same, given-some, given-none, select_in}
use Rattle.rules.proofs.Basics.Lists.{first_of-select, first_of-map, first_of-given, first_of_flat_map}
use Rattle.rules.proofs.Basics.Along.{along, along_all, along_pass, along_hit, along_over, along_begins}
use Rattle.rules.proofs.Basics.Walks.{slots_next, from_next, from_end}
use Rattle.rules.proofs.Words.Headers.{next-bucket-fits}
use Rattle.rules.proofs.Words.Levels.{interim-used, exponent-fits}
use Rattle.rules.proofs.Words.FreeSlots.{slot-place}
use Rattle.rules.proofs.Tables.Interims.{slot_range}
use Rattle.rules.proofs.Basics.Lowest.{passing, lowest-some, lowest-none}
use Rattle.reading.specs.Within.{SlotWithin, PlacingWithin}
use Rattle.growing.specs.Interim.{placeable, placeable_in, FoundBy}
use Rattle.growing.specs.declared.interim.Found.{Found}

level-slots : (s : State) → at_rest s ≡ false → interim_slots s ≡ slots_of (interim_of s)
unfolding interim_slots levels_in_use top_of bottom_of interim_of flat_map
level-slots s e = rw (e, append-nil)

-- ---- a placing, by the number of its case

pub is_nowhere : (p : Placing) → OneOf (2 ∷ []) (tag_of the_type p) → p ≡ Nowhere
is_nowhere (Free x) e = absurd (omega arith)
is_nowhere (Move from to) e = absurd (omega arith)
is_nowhere Nowhere e = refl

pub is_somewhere : (p : Placing) → OneOf (0 ∷ 1 ∷ []) (tag_of the_type p) → somewhere p ≡ true
is_somewhere (Free x) e = refl
is_somewhere (Move from to) e = refl
is_somewhere Nowhere e = absurd (⊎_elim (λ k. omega arith) (λ k. omega arith) e)

-- what a search found, and whether it found anything
module _ (t : Table) (h : Header) (r : Found) where
  pub placed-none : (o : Option Slot) → FoundBy t h o r → r.placing ≡ Nowhere → o ≡ none
  unfolding FoundBy
  placed-none none k e = refl
  placed-none (some x) k e = never k.2 (ap somewhere e)

  pub none-placed : (o : Option Slot) → o ≡ none → r.placing ≡ Nowhere → FoundBy t h o r
  unfolding FoundBy
  none-placed o e k = rw e k

  pub placed-some : (o : Option Slot) → FoundBy t h o r → somewhere r.placing ≡ true → o ≡ some r.item
  unfolding FoundBy
  placed-some none k e = never e (ap somewhere k)
  placed-some (some x) k e = ap some (sym k.0)

-- the interim level's buckets are few enough to count, and lie in the table
pub few-buckets : (m exponent : ℕ) → m ≡ 2 ^ exponent → exponent ≤ 20 → m ≤ 2 ^ 20
few-buckets m exponent e low = rw e (pow_mono low)

pub bucket-within : (n : ℕ) (h : Header) {m i : ℕ} {l : Level} → GoodHeader n h → at_rest h.state ≡ false → l ≡ interim_of h.state
    → m ≡ size_of l → i < m → 9 + 13 * (m - 1 + i) + 13 ≤ n
bucket-within n h good resizing e q r =
    let fits = exponent-fits h.c h.state good.state (interim_of h.state) (interim-used h.state resizing) in
    next-bucket-fits n h good _ (rw e fits) q _ r

-- ---- along the level's buckets, from the i-th on

module _ (h : Header) (f : Slot → Option Slot) where
  pub found_in : ℕ → Option Slot
  found_in j = first_of f (slots_in (place_at (interim_of h.state) j))

  pub found_from : ℕ → Option Slot
  found_from i = along found_in (buckets_of (size_of (interim_of h.state))) i

  pub found_all : at_rest h.state ≡ false → first_of f (interim_slots h.state) ≡ found_from 0
  unfolding slots_of found_from found_in
  found_all e =
      ap (first_of f) (level-slots h.state e)
      ∙ first_of_flat_map f slots_in (map (place_at (interim_of h.state)) (buckets_of (size_of (interim_of h.state))))
      ∙ first_of-map (λ (p : Place). first_of f (slots_in p)) (place_at (interim_of h.state)) (buckets_of (size_of (interim_of h.state)))
      ∙ along_all found_in (buckets_of (size_of (interim_of h.state)))

  -- the level's i-th bucket, of m
  module _ (m i : ℕ) {l : Level} (e : l ≡ interim_of h.state) (q : m ≡ size_of l) (r : i < m) where
    bucket-next : drop i (buckets_of (size_of (interim_of h.state))) ≡ (m - 1 + i) ∷ drop (i + 1) (buckets_of (size_of (interim_of h.state)))
    unfolding buckets_of
    bucket-next = rw (← e, ← q) (from_next (m - 1) m i r)

    pub found_hit : {x : Slot} → found_in (m - 1 + i) ≡ some x → found_from i ≡ some x
    unfolding found_from
    found_hit k = along_hit found_in (buckets_of (size_of (interim_of h.state))) i bucket-next k

    pub found_pass : found_in (m - 1 + i) ≡ none → found_from i ≡ found_from (i + 1)
    unfolding found_from
    found_pass k = along_pass found_in (buckets_of (size_of (interim_of h.state))) i bucket-next k

  pub found-over : (m i : ℕ) {l : Level} → l ≡ interim_of h.state → m ≡ size_of l → m ≤ i → found_from i ≡ none
  unfolding found_from buckets_of
  found-over m i e q l = along_over found_in (buckets_of (size_of (interim_of h.state))) i
      (from_end (size_of (interim_of h.state) - 1) (size_of (interim_of h.state)) i (rw (← e, ← q) l))

-- a search that finds nothing before bucket b, and from there on what another finds
module _ (h : Header) (g f : Slot → Option Slot) (b : ℕ) (before : (x : Slot) → interim_bucket h.state x < b → g x ≡ none)
    (onward : (x : Slot) → b ≤ interim_bucket h.state x → g x ≡ f x) where
  abbrev size : ℕ
  size = size_of (interim_of h.state)

  in_bucket : (i : ℕ) (x : Slot) → In x (slots_in (place_at (interim_of h.state) (size - 1 + i))) → interim_bucket h.state x ≡ i
  unfolding interim_bucket place_of place_at
  in_bucket i x k =
      let e : x.bucket ≡ size - 1 + i = ap (λ (q : Place). q.bucket) (slot-place (place_at (interim_of h.state) (size - 1 + i)) x k) in
      omega (arith, e)

  skipped : (i : ℕ) → i < b → found_in h g (size - 1 + i) ≡ none
  unfolding found_in
  skipped i l = none-first_of g _ (λ x k. let e = in_bucket i x k in before x (rw e l))

  found_alike : (i : ℕ) → b ≤ i → found_in h g (size - 1 + i) ≡ found_in h f (size - 1 + i)
  unfolding found_in
  found_alike i l = first_of-same g f _ (λ x k. let e = in_bucket i x k in onward x (rw e l))

  skip : (n : ℕ) → n ≤ b → found_from h g 0 ≡ found_from h g n
  skip zero l = refl
  skip (suc n) l = skip n (omega arith) ∙ go (dec_le size n)
    where
      next : n + 1 ≡ suc n
      next = omega arith

      go : Dec (size ≤ n) → found_from h g n ≡ found_from h g (suc n)
      go (yes over) = found-over h g size n refl refl over ∙ sym (found-over h g size (suc n) refl refl (omega arith))
      go (no under) = found_pass h g size n refl refl (omega arith) (skipped n (omega arith)) ∙ ap (found_from h g) next

  alike_from : (i : ℕ) → b ≤ i → found_from h g (i + 1) ≡ found_from h f (i + 1) → found_from h g i ≡ found_from h f i
  alike_from i l later = go (dec_le size i)
    where
      bucket : (o : Option Slot) → found_in h f (size - 1 + i) ≡ o → i < size → found_from h g i ≡ found_from h f i
      bucket none e under = found_pass h g size i refl refl under (found_alike i l ∙ e) ∙ later ∙ sym (found_pass h f size i refl refl under e)
      bucket (some x) e under = found_hit h g size i refl refl under (found_alike i l ∙ e) ∙ sym (found_hit h f size i refl refl under e)

      go : Dec (size ≤ i) → found_from h g i ≡ found_from h f i
      go (yes over) = found-over h g size i refl refl over ∙ sym (found-over h f size i refl refl over)
      go (no under) = bucket (found_in h f (size - 1 + i)) refl (omega arith)

  rest : (n i : ℕ) → b ≤ i → size ≤ i + n → found_from h g i ≡ found_from h f i
  rest zero i l m = found-over h g size i refl refl (omega arith) ∙ sym (found-over h f size i refl refl (omega arith))
  rest (suc n) i l m = alike_from i l (rest n (i + 1) (omega arith) (omega arith))

  found-onward : found_from h g 0 ≡ found_from h f b
  found-onward = skip b (omega arith) ∙ rest size b (omega arith) (omega arith)

module _ (t : Table) (h : Header) where
  -- ---- the first taken slot

  pub item_at : Slot → Option Slot
  item_at x = given (taken t h x) x

  head_first : {A : Type 0} (p : A → Bool) (l : List A) → head? (select p l) ≡ first_of (λ (x : A). given (p x) x) l
  head_first p [] = refl
  head_first p (x ∷ l) = go (p x) (head_first p l)
    where
      go : (b : Bool) → head? (select p l) ≡ first_of (λ y. given (p y) y) l
          → head? (cond b (x ∷ select p l) (select p l)) ≡ or_else (given b x) (first_of (λ y. given (p y) y) l)
      go true k = refl
      go false k = k

  -- the test of the rules, in the search
  started : ℕ → Slot → Bool
  started b x = leb b (interim_bucket h.state x)

  not_started : (b : ℕ) (x : Slot) → interim_bucket h.state x < b → started b x ≡ false
  unfolding started
  not_started b x l = lt-leb b _ l

  now_started : (b : ℕ) (x : Slot) → b ≤ interim_bucket h.state x → started b x ≡ true
  unfolding started
  now_started b x l = le-leb b _ l

  pub items_from_lem : (b : ℕ) → at_rest h.state ≡ false → head? (items_from t h b) ≡ found_from h item_at b
  unfolding items_from interim_items item_at started
  items_from_lem b e =
      head_first (started b) (select (taken t h) (interim_slots h.state))
      ∙ first_of-select (λ (x : Slot). given (started b x) x) (taken t h) (interim_slots h.state) ∙ found_all h search e
      ∙ found-onward h search item_at b (λ x l. none_before x (taken t h x) (not_started b x l)) (λ x l. on x (taken t h x) (now_started b x l))
    where
      search : Slot → Option Slot
      search x = cond (taken t h x) (given (started b x) x) none

      none_before : (x : Slot) (c : Bool) → started b x ≡ false → cond c (given (started b x) x) none ≡ none
      none_before x true k = rw k
      none_before x false k = refl

      on : (x : Slot) (c : Bool) → started b x ≡ true → cond c (given (started b x) x) none ≡ given c x
      on x true k = rw k
      on x false k = refl

  -- one bucket, by its token word: whether a slot is taken, and the lowest taken one
  module _ (j : ℕ) {w : ℕ} {b : Bool} (u : w ≡ token_of t j) (v : b ≡ ltb (lowest_taken h w) 4) where
    bucket-item : found_in h item_at j ≡ Option.map (slot_at (place_at (interim_of h.state) j)) (first_of (passing (is_taken h w)) slots)
    unfolding found_in item_at slots_in slot_at place_at taken
    bucket-item =
        rw (first_of-map item_at (slot_at (place_at (interim_of h.state) j)) slots, u)
        (first_of-given (is_taken h (token_of t j)) (slot_at (place_at (interim_of h.state) j)) slots)

    pub item-none : b ≡ false → found_in h item_at j ≡ none
    unfolding lowest_taken
    item-none k =
        let high = ltb-false (lowest (is_taken h w)) 4 (sym v ∙ k) in
        bucket-item ∙ ap (Option.map (slot_at (place_at (interim_of h.state) j))) (lowest-none (is_taken h w) _ refl high)

    pub item_low : {s : ℕ} → b ≡ true → s ≡ lowest_taken h w → s < 4
    item_low k e = rw e (ltb-true (lowest_taken h w) 4 (sym v ∙ k))

    pub item-here : {s : ℕ} {l : Level} → l ≡ interim_of h.state → b ≡ true → s ≡ lowest_taken h w
        → found_in h item_at j ≡ some (slot_at (place_at l j) s)
    unfolding lowest_taken
    item-here e k z = rw e (bucket-item ∙ ap (Option.map (slot_at (place_at (interim_of h.state) j))) (lowest-some (is_taken h w) _ z (item_low k z)))

  -- ---- the first that is taken by an item that has a place

  pub placeable-all : (b : ℕ) → at_rest h.state ≡ false → step_item t h b ≡ found_from h (placeable t h) b
  unfolding step_item items_from interim_items placeable started
  placeable-all b e =
      first_of-select place (started b) (select (taken t h) (interim_slots h.state))
      ∙ first_of-select (λ (x : Slot). cond (started b x) (place x) none) (taken t h) (interim_slots h.state) ∙ found_all h search e
      ∙ found-onward h search (placeable t h) b (λ x l. none_before x (taken t h x) (not_started b x l)) (λ x l. on x (now_started b x l))
    where
      place : Slot → Option Slot
      place x = given (has_place t h x) x

      search : Slot → Option Slot
      search x = cond (taken t h x) (cond (started b x) (place x) none) none

      none_before : (x : Slot) (c : Bool) → started b x ≡ false → cond c (cond (started b x) (place x) none) none ≡ none
      none_before x true k = rw k
      none_before x false k = refl

      on : (x : Slot) → started b x ≡ true → search x ≡ placeable t h x
      on x k = rw k

  -- one slot of a bucket, by its token word, its key and what placing finds for it
  module _ (p : Place) (s : ℕ) (low : s < 4) {w : ℕ} {b : Bool} (u : w ≡ token_of t p.bucket) (v : b ≡ is_taken h w s) where
    slot-none : placeable t h (slot_at p s) ≡ none → along (placeable t h) (slots_in p) s ≡ along (placeable t h) (slots_in p) (s + 1)
    slot-none e = along_pass (placeable t h) (slots_in p) s (slots_next p s low) e

    pub slot-free : b ≡ false → along (placeable t h) (slots_in p) s ≡ along (placeable t h) (slots_in p) (s + 1)
    unfolding placeable taken slot_at
    slot-free e = slot-none (rw (← u, ← v, e))

    module _ (e : b ≡ true) {key : ℕ} (k : key ≡ key_in t (slot_at p s)) (q : Placing) (f : q ≡ placing t h key) where
      pub slot-stuck : q ≡ Nowhere → along (placeable t h) (slots_in p) s ≡ along (placeable t h) (slots_in p) (s + 1)
      unfolding placeable taken slot_at has_place
      slot-stuck g = slot-none (rw (← u, ← v, e, ← k, ← f, g))

      slot-placeable : somewhere q ≡ true → placeable t h (slot_at p s) ≡ some (slot_at p s)
      unfolding placeable taken slot_at has_place
      slot-placeable g = rw (← u, ← v, e, ← k, ← f, g)

      pub slot_placed : somewhere q ≡ true → SlotWithin t (slot_at p s) → PlacingWithin t q → placeable_in t h p ≡ along (placeable t h) (slots_in p) s
          → FoundBy t h (placeable_in t h p) (record { item = slot_at p s; placing = q })
      unfolding FoundBy
      slot_placed g near far i =
          rw (i ∙ along_hit (placeable t h) (slots_in p) s (slots_next p s low) (slot-placeable g))
          (refl, f ∙ ap (placing t h) k, g, near, far)

  -- one bucket of the level, by what its own search found
  module _ (m i : ℕ) {l : Level} (e : l ≡ interim_of h.state) (q : m ≡ size_of l) (r : i < m) (p : Place) (z : p ≡ place_at l (m - 1 + i)) (f : Found)
      (k : FoundBy t h (placeable_in t h p) f) where
    bucket_search : found_in h (placeable t h) (m - 1 + i) ≡ placeable_in t h p
    unfolding placeable_in found_in
    bucket_search = rw (z, e)

    pub bucket-stuck : f.placing ≡ Nowhere → found_from h (placeable t h) i ≡ found_from h (placeable t h) (i + 1)
    bucket-stuck g = found_pass h (placeable t h) m i e q r (bucket_search ∙ placed-none t h f (placeable_in t h p) k g)

    pub bucket-placed : {o : Option Slot} → somewhere f.placing ≡ true → o ≡ found_from h (placeable t h) i → FoundBy t h o f
    bucket-placed g j =
        let found = placed-some t h f (placeable_in t h p) k g in
        rw (j ∙ found_hit h (placeable t h) m i e q r (bucket_search ∙ found)) (rw found at k)

  -- a bucket without a taken slot has none
  nothing-placeable : (j : ℕ) → found_in h item_at j ≡ none → found_in h (placeable t h) j ≡ none
  unfolding found_in item_at placeable
  nothing-placeable j e = none-first_of (placeable t h) (slots_in (place_at (interim_of h.state) j))
      (λ x i. let k = given-none (taken t h x) x (first_of-none item_at (slots_in (place_at (interim_of h.state) j)) e x i) in rw k)

  pub bucket-empty : (m i : ℕ) {l : Level} → l ≡ interim_of h.state → m ≡ size_of l → i < m → found_in h item_at (m - 1 + i) ≡ none
      → found_from h (placeable t h) i ≡ found_from h (placeable t h) (i + 1)
  bucket-empty m i e q r k = found_pass h (placeable t h) m i e q r (nothing-placeable (m - 1 + i) k)

  item-bucket : (j : ℕ) (x : Slot) → found_in h item_at j ≡ some x → x.bucket ≡ j
  unfolding found_in item_at place_of place_at
  item-bucket j x e =
      let p = place_at (interim_of h.state) j in
      let f = first_of-some item_at (slots_in p) x e in
      let same = (given-some (taken t h f.found) f.found x f.gives).1 in
      ap (λ (q : Place). q.bucket) (slot-place p x (rw same at f.inside))

  -- so it may begin at the bucket of the first item
  pub begins_there : (b : ℕ) (x : Slot) → at_rest h.state ≡ false → head? (items_from t h b) ≡ some x
      → step_item t h b ≡ step_item t h (interim_bucket h.state x)
  unfolding found_from along buckets_of interim_bucket
  begins_there b x resizing k =
      let n = size_of (interim_of h.state) in
      let r = along_begins (found_in h item_at) (found_in h (placeable t h)) nothing-placeable (drop b (from (n - 1) n)) x (sym (items_from_lem b resizing) ∙ k) in
      let on = drop-drop r.index b (from (n - 1) n) in
      let j : r.element ≡ n - 1 + (b + r.index) = at_index n (b + r.index) (sym on ∙ r.next) in
      let i : x.bucket ≡ r.element = item-bucket r.element x r.gives in
      let same : b + r.index ≡ x.bucket - (n - 1) = omega (arith, i, j) in
      placeable-all b resizing ∙ r.same ∙ ap (first_of (found_in h (placeable t h))) on ∙ ap (found_from h (placeable t h)) same
      ∙ sym (placeable-all (x.bucket - (n - 1)) resizing)
    where
      at_index : (size i : ℕ) {a : ℕ} {rest : List ℕ} → drop i (from (size - 1) size) ≡ a ∷ rest → a ≡ size - 1 + i
      at_index size i {a} next = go (dec_le size i)
        where
          go : Dec (size ≤ i) → a ≡ size - 1 + i
          go (yes over) = absurd (let f = from_end (size - 1) size i over in let z : ◌≡◌ {A = ℕ} 0 1 = cc in omega arith)
          go (no under) = let f = from_next (size - 1) size i (omega arith) in cc

  -- the items stand in the interim level
  in_level_lem : (b : ℕ) (x : Slot) → In x (items_from t h b) → InLevel (interim_of h.state) x.bucket
  unfolding items_from interim_items
  in_level_lem b x i = slot_range h.state x (select_in _ _ x (select_in _ _ x i).0).0

  pub first_in_level : (b : ℕ) (x : Slot) → head? (items_from t h b) ≡ some x → InLevel (interim_of h.state) x.bucket
  first_in_level b x e = in_level_lem b x (go (items_from t h b) e)
    where
      go : (l : List Slot) → head? l ≡ some x → In x l
      go [] e = not_some e
      go (y ∷ l) e = here (sym (some_one e))

  pub step_in_level : (b : ℕ) (x : Slot) → step_item t h b ≡ some x → InLevel (interim_of h.state) x.bucket
  unfolding step_item
  step_in_level b x e =
      let f = first_of-some (λ (y : Slot). given (has_place t h y) y) (items_from t h b) x e in
      let g = given-some (has_place t h f.found) f.found x f.gives in
      in_level_lem b x (rw g.1 at f.inside)
