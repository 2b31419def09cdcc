-- A pass of steps, each from the bucket that the one before told: it ends, it leaves no item that has a place, and it looks at each bucket of
-- the level once, and once more for each step.
-- Assumes nothing.
use Prim.Native.Nat.{ℕ, zero, suc, ◌+◌, ◌-◌, ◌≤◌, ◌<◌}
use mathlib.Core.Path.{◌≡◌, refl, sym, ap, ◌∙◌}
use mathlib.Core.Bool.{Bool, true, false, cond}
use mathlib.Core.List.{List, [], ◌∷◌, Memᴰ as In}
use mathlib.Core.Logic.{◌⊎◌, inl, inr}
use mathlib.Core.Option.{Option, none, some}
use native.Mathlib.Decide.{dec_le}
use native.Mathlib.Omega.{arith}
use lib.ListN.{length}
use lib.Dec.{eqb}
use borrow.Author.Tests.{eqb-true, eq-eqb}
use Rattle.rules.specs.Choice.{select, empty, from}
use Rattle.rules.specs.Words.{Table, header_of, size_of, interim_of, key_in}
use Rattle.rules.specs.Placing.{placing, somewhere}
use Rattle.rules.specs.Stores.{Store, step_stores, made}
use Rattle.rules.specs.Soundness.{SoundTable, Before}
use Rattle.rules.specs.Calls.{refused, listed, changing_tests, interim_items, interim_bucket, has_place, step_item, step_in, step_tests, step_of, step_from}
use Rattle.rules.specs.Calls.{outcome}
use Rattle.rules.specs.Results.{change_result, step_from_result}
use Rattle.rules.specs.NoPlace.{NoPlaceFor}
use Rattle.rules.specs.Histories.{whole, after, Accepted}
use Rattle.rules.specs.Demands.{Resizing, InterimItem, None, NoInterim, interim_size, InterimFrom, FirstWithPlace, NoneHasPlace, StepBy}
use Rattle.rules.specs.StepFromSentences.{Pass, PassEnds, PassPlacesAll, places_any, up_to, looked_at, LooksUntilFound, looks, PassLooksAtFew}
use Rattle.rules.specs.declared.Header.{Header}
use Rattle.rules.specs.declared.Slot.{Slot}
use Rattle.rules.specs.declared.Placing.TheVariants.{Move}
use Rattle.rules.specs.declared.Refusal.{Refusal}
use Rattle.rules.specs.declared.Refusal.TheVariants.{InterimEmpty, NoPlace}
use Rattle.rules.proofs.Basics.Lists.{never, select_in, in_select}
use Rattle.rules.proofs.Basics.Tests.{Tells, tells-any}
use Rattle.rules.proofs.Basics.Walks.{from_length}
use Rattle.rules.proofs.Places.Placings.{no_place_lem, placed-somewhere, placing_move}
use Rattle.rules.proofs.Tables.Interims.{interim-item, interim-empty, interim_left, bucket-counted, interim-size, step-item}
use Rattle.rules.proofs.Tables.Maps.{map_exists}
use Rattle.rules.proofs.Calls.Checked.{checked-listed}
use Rattle.rules.proofs.Calls.StoreLists.{listed-one, never-listed}
use Rattle.rules.proofs.Calls.MadeLists.{stores_of, after-whole, accepted-lists, lists-accepted}
use Rattle.rules.proofs.Calls.StepSentences.{accepted-behind, eleven_from_exactly, six_from_exactly}
use Rattle.rules.proofs.Calls.GrowthSteps.{not_interim, taken_steps, step_answers}
use Rattle.rules.proofs.Calls.StuckItems.{stuck_stays_stuck}
use Rattle.rules.proofs.Growth.GrowthCost.{count, count_most, steps_count, step-taken}

-- ---- one accepted step of a pass

-- the item that it takes, the bucket that it tells, and the table with its stores made
record OneStep (t : Table) (b : ℕ) (l : List ℕ) : Type 0 where
  pub slot : Slot
  pub item : step_item t (header_of t) b ≡ some slot
  pub stores : List Store
  pub list : outcome t (length l) (step_from b) ≡ listed stores
  pub listing : stores ≡ step_stores t (header_of t) slot (placing t (header_of t) (key_in t slot))
  pub result : after t (whole (step_from b) l) ≡ made t stores
  pub told : (step_from_result t b l).0.bucket ≡ interim_bucket (header_of t).state slot
  pub resizing : Resizing t

one-step : (t : Table) (b : ℕ) (l : List ℕ) → Accepted (change_result t l (step_from b)).0 → OneStep t b l
unfolding step_from_result outcome step_of
one-step t b l a = go (accepted-lists t l (step_from b) a)
  where
    h : Header
    h = header_of t

    by_item : (xs : List Store) → outcome t (length l) (step_from b) ≡ listed xs → (o : Option Slot) → step_item t h b ≡ o
        → step_in t h o ≡ listed xs → OneStep t b l
    by_item xs e none q f = never-listed f
    by_item xs e (some x) q f = record {
      slot = x;
      item = q;
      stores = xs;
      list = e;
      listing = listed-one f;
      result = after-whole t l (step_from b) ∙ ap (λ o. made t (stores_of o)) e;
      told = rw (e, q);
      resizing = (accepted-behind t (length l) b xs e).resizing;
    }

    go : (xs : List Store) × (outcome t (length l) (step_from b) ≡ listed xs) → OneStep t b l
    go (xs, e) = by_item xs e (step_item t h b) refl (checked-listed _ xs (step_tests t h b) (checked-listed _ xs (changing_tests t (length l)) e))

-- ---- it ends

pass_count : (ls : List (List ℕ)) (t u : Table) (b c : ℕ) → Pass t b ls u c → length ls ≤ count t
pass_count [] t u b c p = omega arith
pass_count (l ∷ ls) t u b c p =
    let s = one-step t b l p.0 in
    let k = step-taken t (length l) s.resizing b s.stores s.list in
    let less = steps_count t (made t s.stores) k.0 k.1 in
    let rest = pass_count ls (after t (whole (step_from b) l)) u _ c p.1 in
    omega (arith, less, rw s.result at rest)

pub pass_ends : PassEnds
pass_ends t u b c ls p = omega (arith, interim-size t, pass_count ls t u b c p, count_most t)

-- ---- it leaves no item that has a place

-- a smaller bucket of the interim level is an earlier one
bucket-before : (t : Table) (x y : Slot) → InterimItem t x → InterimItem t y
    → interim_bucket (header_of t).state y < interim_bucket (header_of t).state x → Before y x
bucket-before t x y i j l = inr (j.level ∙ sym i.level, inl (omega (arith, (bucket-counted t x i).0, (bucket-counted t y j).0)))

-- no item before bucket b has a place
abbrev StuckBefore : Table → ℕ → Type 0
StuckBefore t b = (y : Slot) → InterimItem t y → interim_bucket (header_of t).state y < b → NoPlaceFor t (header_of t) (key_in t y)

from-bucket : (t : Table) (b : ℕ) (y : Slot) → InterimItem t y → b ≤ interim_bucket (header_of t).state y → InterimFrom t b y
from-bucket t b y i l = record { item = i; start = omega (arith, interim-size t, (bucket-counted t y i).0) }

module _ (t : Table) (b : ℕ) (l : List ℕ) (sound : SoundTable t) (stuck : StuckBefore t b) (s : OneStep t b l) where
  first : FirstWithPlace t (InterimFrom t b) s.slot
  first = step-item t b s.slot s.item

  -- before the bucket that is told
  stuck_so_far : StuckBefore t (interim_bucket (header_of t).state s.slot)
  stuck_so_far y i l = go (dec_le b (interim_bucket (header_of t).state y))
    where
      go : Dec (b ≤ interim_bucket (header_of t).state y) → NoPlaceFor t (header_of t) (key_in t y)
      go (yes k) = first.earlier y (from-bucket t b y i k) (bucket-before t s.slot y first.item.item i l)
      go (no k) = stuck y i (omega arith)

  abbrev onward : Table
  onward = made t (step_stores t (header_of t) s.slot (placing t (header_of t) (key_in t s.slot)))

  -- an interim item's key stays: what makes room stands in top or bottom
  kept : (u : Table) (y : Slot) → InterimItem t y
      → (key_in u y ≡ key_in t y) ⊎ ((to : Slot) × (placing t (header_of t) (key_in t s.slot) ≡ Move y to)) → key_in u y ≡ key_in t y
  kept u y i (inl e) = e
  kept u y i (inr (to, e)) = absurd (not_interim y (placing_move t (header_of t) (key_in t s.slot) y to e).level i.level)

  made_on : ((key : ℕ) → NoPlaceFor t (header_of t) key → NoPlaceFor onward (header_of onward) key)
      → SoundTable onward × Resizing onward × StuckBefore onward (interim_bucket (header_of t).state s.slot)
  made_on still =
      let m = map_exists t sound in
      let k = taken_steps t m.0 (record { sound = sound; map = m.1 }) b s.slot first in (
        k.0.whole.sound,
        λ rest. s.resizing (rw k.0.header at rest),
        λ y i less.
            let old = (k.1.rest y).0 i in
            let key = kept onward y old.0 (k.2 y old.0.item old.1).1 in
            rw key (still (key_in t y) (stuck_so_far y old.0 (rw k.0.header at less))),
      )

  step-onward : SoundTable (made t s.stores) × Resizing (made t s.stores)
      × StuckBefore (made t s.stores) (interim_bucket (header_of t).state s.slot)
  step-onward = rw s.listing (made_on (λ key stays. rw s.listing at (stuck_stays_stuck t (length l) b s.stores sound s.list key stays)))

pass_stuck : (ls : List (List ℕ)) (t u : Table) (b c : ℕ) → SoundTable t → Resizing t → StuckBefore t b → Pass t b ls u c
    → SoundTable u × Resizing u × StuckBefore u c
pass_stuck [] t u b c sound resizing stuck p = rw (← p.0, ← p.1) (sound, resizing, stuck)
pass_stuck (l ∷ ls) t u b c sound resizing stuck p =
    let s = one-step t b l p.0 in
    let k = step-onward t b l sound stuck s in
    pass_stuck ls (made t s.stores) u (interim_bucket (header_of t).state s.slot) c k.0 k.1 k.2 (rw (s.result, s.told) at p.1)

-- what a pass that ends with refusal r leaves
abbrev Left : Table → Refusal → Type 0
Left u r = (NoInterim u × (r ≡ InterimEmpty)) ⊎ (NoneHasPlace u (InterimItem u) × ((r ≡ InterimEmpty) ⊎ (r ≡ NoPlace)))

pub pass_places_all : PassPlacesAll
pass_places_all t u c n ls r sound resizing p room e = go k.0 k.1 k.2
  where
    k : SoundTable u × Resizing u × StuckBefore u c
    k = pass_stuck ls t u 0 c sound resizing (λ y i l. absurd (omega arith)) p

    -- what stands before c is stuck, and so is what stands from there on
    all-stuck : StuckBefore u c → ((y : Slot) → InterimFrom u c y → NoPlaceFor u (header_of u) (key_in u y)) → (y : Slot) → InterimItem u y
        → NoPlaceFor u (header_of u) (key_in u y)
    all-stuck stuck onward y i = by (dec_le c (interim_bucket (header_of u).state y))
      where
        by : Dec (c ≤ interim_bucket (header_of u).state y) → NoPlaceFor u (header_of u) (key_in u y)
        by (yes l) = onward y (from-bucket u c y i l)
        by (no l) = stuck y i (omega arith)

    same : {s : Refusal} → outcome u n (step_from c) ≡ refused s → r ≡ s
    same q = let z = sym e ∙ q in cc

    left : StuckBefore u c → (b : Bool) → empty (interim_items u (header_of u)) ≡ b → None (InterimFrom u c)
        → outcome u n (step_from c) ≡ refused InterimEmpty → Left u r
    left stuck true q gone a = inl ((interim-empty u).0 q, same a)
    left stuck false q gone a = inr (record { remain = interim_left u q; stuck = all-stuck stuck (λ y f. absurd (gone y f)) }, inl (same a))

    by_answer : StuckBefore u c → (None (InterimFrom u c) × (outcome u n (step_from c) ≡ refused InterimEmpty))
        ⊎ ((NoneHasPlace u (InterimFrom u c) × (outcome u n (step_from c) ≡ refused NoPlace))
        ⊎ ((x : Slot) × FirstWithPlace u (InterimFrom u c) x × StepBy u (map_exists u k.0).0 x (outcome u n (step_from c))))
        → Left u r
    by_answer stuck (inl (gone, a)) = left stuck (empty (interim_items u (header_of u))) refl gone a
    by_answer stuck (inr (inl (left_over, a))) =
        inr (record { remain = (left_over.remain.0, left_over.remain.1.item); stuck = all-stuck stuck left_over.stuck }, inr (same a))
    by_answer stuck (inr (inr (x, f, s))) = never-listed (sym e ∙ s.0.answer)

    go : SoundTable u → Resizing u → StuckBefore u c → Left u r
    go w grows stuck =
        let m = map_exists u k.0 in
        by_answer stuck ((step_answers u m.0 n (record { sound = k.0; map = m.1; room = room }) c).1 grows)

-- ---- what it looks at

module _ (p : ℕ → Bool) where
  up_to_most : (l : List ℕ) → length (up_to p l) ≤ length l
  up_to_most [] = omega arith
  up_to_most (i ∷ l) = go (p i) (up_to_most l)
    where
      go : (b : Bool) → length (up_to p l) ≤ length l → suc (length (cond b [] (up_to p l))) ≤ suc (length l)
      go true k = omega arith
      go false k = omega arith

  -- none of the first k passes, and the next one does
  up_to_first : (k b n : ℕ) → k < n → ((i : ℕ) → b ≤ i → i < b + k → p i ≡ false) → p (b + k) ≡ true
      → up_to p (from b n) ≡ from b (k + 1)
  up_to_first k b zero l missed found = absurd (omega arith)
  up_to_first zero b (suc n) l missed found =
      let same : b + 0 ≡ b = omega arith in
      let hit : p b ≡ true = rw same at found in
      rw hit
  up_to_first (suc k) b (suc n) l missed found =
      let miss = missed b (omega arith) (omega arith) in
      let next : b + suc k ≡ suc b + k = omega arith in
      let count : suc k + 1 ≡ suc (k + 1) = omega arith in
      rw (miss, count) (ap (λ is. b ∷ is) (up_to_first k (suc b) n (omega arith) (λ i m o. missed i (omega arith) (omega arith)) (rw next at found)))

  -- none passes
  up_to_none : (b n : ℕ) → ((i : ℕ) → b ≤ i → p i ≡ false) → up_to p (from b n) ≡ from b n
  up_to_none b zero missed = refl
  up_to_none b (suc n) missed = rw (missed b (omega arith)) (ap (λ is. b ∷ is) (up_to_none (suc b) n (λ i l. missed i (omega arith))))

module _ (t : Table) where
  -- a bucket with an item that has a place
  any-placed : (i : ℕ) → Tells (places_any t (header_of t) i)
      ((x : Slot) × In x (select (λ (y : Slot). eqb (interim_bucket (header_of t).state y) i) (interim_items t (header_of t)))
      × (has_place t (header_of t) x ≡ true))
  unfolding places_any
  any-placed i = tells-any (has_place t (header_of t)) (λ x. has_place t (header_of t) x ≡ true) (λ x. (λ e. e, λ e. e)) _

  -- and one where no item from bucket b on has one
  none-placed : (b i : ℕ) → b ≤ i
      → ((y : Slot) → InterimFrom t b y → interim_bucket (header_of t).state y ≡ i → NoPlaceFor t (header_of t) (key_in t y))
      → places_any t (header_of t) i ≡ false
  unfolding has_place
  none-placed b i l stuck = go (places_any t (header_of t) i) refl
    where
      go : (o : Bool) → places_any t (header_of t) i ≡ o → o ≡ false
      go true e =
          let r = (any-placed i).0 e in
          let k = select_in (λ (y : Slot). eqb (interim_bucket (header_of t).state y) i) (interim_items t (header_of t)) r.0 r.1 in
          let item = (interim-item t r.0).0 k.0 in
          let there = eqb-true (interim_bucket (header_of t).state r.0) i k.1 in
          let none_here = stuck r.0 (from-bucket t b r.0 item (omega (arith, there))) there in
          never r.2 (ap somewhere ((no_place_lem t (header_of t) (key_in t r.0)).1 none_here))
      go false e = refl

  module _ (b : ℕ) (x : Slot) (first : FirstWithPlace t (InterimFrom t b) x) where
    abbrev told : ℕ
    told = interim_bucket (header_of t).state x

    told_range : (b ≤ told) × (told < size_of (interim_of (header_of t).state))
    told_range = let c = bucket-counted t x first.item.item in (omega (arith, interim-size t, c.0, first.item.start), c.1)

    bucket_hit : places_any t (header_of t) told ≡ true
    unfolding has_place
    bucket_hit = (any-placed told).1 (
      x,
      in_select (λ (y : Slot). eqb (interim_bucket (header_of t).state y) told) ((interim-item t x).1 first.item.item) (eq-eqb told told refl),
      placed-somewhere t (header_of t) (key_in t x) first.place,
    )

    bucket_missed : (i : ℕ) → b ≤ i → i < told → places_any t (header_of t) i ≡ false
    bucket_missed i l m = none-placed b i l (λ y u e. first.earlier y u (bucket-before t x y first.item.item u.item (omega (arith, e))))

    looked : looked_at t b ≡ from b (told + 1 - b)
    unfolding looked_at
    looked =
        let r = told_range in
        let on : b + (told - b) ≡ told = omega (arith, r.0) in
        let last : told - b + 1 ≡ told + 1 - b = omega (arith, r.0) in
        up_to_first (places_any t (header_of t)) (told - b) b (interim_size t - b) (omega (arith, interim-size t, r.0, r.1))
        (λ i l m. bucket_missed i l (omega (arith, on))) (rw on bucket_hit) ∙ ap (from b) last

looked_most : (t : Table) (b : ℕ) → length (looked_at t b) ≤ size_of (interim_of (header_of t).state) - b
unfolding looked_at
looked_most t b =
    let n = interim_size t - b in
    omega (arith, interim-size t, up_to_most (places_any t (header_of t)) (from b n), from_length b n)

-- the buckets from b on once, and one more for each step
pass_looks : (ls : List (List ℕ)) (t u : Table) (b c : ℕ) → Pass t b ls u c → looks t b ls ≤ size_of (interim_of (header_of t).state) - b + length ls
pass_looks [] t u b c p = omega (arith, looked_most t b)
pass_looks (l ∷ ls) t u b c p =
    let s = one-step t b l p.0 in
    let first = step-item t b s.slot s.item in
    let header = (step-taken t (length l) s.resizing b s.stores s.list).1.drains.header in
    let rest = pass_looks ls (after t (whole (step_from b) l)) u _ c p.1 in
    let r = told_range t b s.slot first in
    let size : size_of (interim_of (header_of (after t (whole (step_from b) l))).state) ≡ size_of (interim_of (header_of t).state) = rw (s.result, header) in
    let here : length (looked_at t b) ≡ interim_bucket (header_of t).state s.slot + 1 - b = ap length (looked t b s.slot first) ∙ from_length b _ in
    omega (arith, here, r.0, r.1, s.told, rest, size)

pub pass_looks_at_few : PassLooksAtFew
pass_looks_at_few t u b c ls p = omega (arith, interim-size t, pass_looks ls t u b c p)

pub looks_until_found : LooksUntilFound
unfolding looked_at
looks_until_found t b l = (accepted, none_found)
  where
    accepted : (stores : List Store) → outcome t (length l) (step_from b) ≡ listed stores
        → looked_at t b ≡ from b ((step_from_result t b l).0.bucket + 1 - b)
    accepted stores e =
        let s = one-step t b l (lists-accepted t l (step_from b) stores e) in
        looked t b s.slot (step-item t b s.slot s.item) ∙ ap (λ c. from b (c + 1 - b)) (sym s.told)

    missed : ((y : Slot) → InterimFrom t b y → NoPlaceFor t (header_of t) (key_in t y)) → looked_at t b ≡ from b (interim_size t - b)
    missed stuck = up_to_none (places_any t (header_of t)) b (interim_size t - b) (λ i m. none-placed t b i m (λ y u e. stuck y u))

    none_found : (outcome t (length l) (step_from b) ≡ refused InterimEmpty) ⊎ (outcome t (length l) (step_from b) ≡ refused NoPlace)
        → looked_at t b ≡ from b (interim_size t - b)
    none_found (inl e) = missed (λ y u. absurd (((eleven_from_exactly t (length l) b).0 e).1 y u))
    none_found (inr e) = missed ((six_from_exactly t (length l) b).0 e).1.stuck
