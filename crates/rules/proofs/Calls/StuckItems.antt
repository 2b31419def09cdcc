-- "a step gives no place to an item that had none": a placing only adds taken slots to top and bottom, and where it moves an item out of a
-- slot of a stuck key, that move would have made a place for that key before. So no key gains a place by it, and none by an insert.
-- Assumes nothing.
use Prim.Native.Nat.{ℕ}
use mathlib.Core.Path.{◌≡◌, refl, sym, ◌∙◌}
use mathlib.Core.Bool.{Bool, true, false}
use mathlib.Core.List.{List, Memᴰ as In}
use mathlib.Core.Logic.{◌⊎◌, inl, inr, ◌↔◌, ⊎_elim}
use mathlib.Core.Option.{Option, none, some}
use Rattle.rules.specs.Words.{Table, header_of, interim, InUse, place_of, key_in, record_in, token_of, taken, hide}
use Rattle.rules.specs.Places.{lookup, places_of}
use Rattle.rules.specs.Placing.{placing}
use Rattle.rules.specs.Stores.{Store, put_stores, move_stores, placing_stores, step_stores, made}
use Rattle.rules.specs.Soundness.{TakenSlot, PlainMap}
use Rattle.rules.specs.Calls.{listed, changing_tests, placed_by, insert_in, step_item, step_in, step_tests, step_of, outcome}
use Rattle.rules.specs.NoPlace.{CandidateSlot, PermittedMove, NoPlaceFor}
use Rattle.rules.specs.Demands.{InterimItem}
use Rattle.rules.specs.StepFromSentences.{StuckStaysStuck, InsertsGiveNoPlace}
use Rattle.rules.specs.declared.Slot.{Slot}
use Rattle.rules.specs.declared.Record.{Record}
use Rattle.rules.specs.declared.Lookup.{Lookup}
use Rattle.rules.specs.declared.Lookup.TheVariants.{Stands, Absent}
use Rattle.rules.specs.declared.Placing.{Placing}
use Rattle.rules.specs.declared.Placing.TheVariants.{Free, Move, Nowhere}
use Rattle.rules.proofs.Basics.Lists.{never}
use Rattle.rules.proofs.Words.Made.{made_append}
use Rattle.rules.proofs.Places.PlacesInUse.{among_used}
use Rattle.rules.proofs.Places.Placings.{MoveFor, candidate_among, goal_candidate, placing-permitted, placing-free, placing_move}
use Rattle.rules.proofs.Tables.Interims.{step-item}
use Rattle.rules.proofs.Tables.Maps.{map_exists}
use Rattle.rules.proofs.Calls.Checked.{checked-listed}
use Rattle.rules.proofs.Calls.StoreLists.{listed-one, never-listed}
use Rattle.rules.proofs.Calls.GrowthSteps.{Settled, slot_same, not_interim, taken_steps}
use Rattle.rules.proofs.Carrying.Putting.{SoundMap, put_writes, put-shown, put-stays, put_stood}
use Rattle.rules.proofs.Carrying.ItemMoved.{AfterMove, move_whole}

-- a candidate slot is a slot of top or bottom in use
candidate_used : (t : Table) (key : ℕ) (z : Slot) → CandidateSlot (header_of t) key z → InUse (header_of t).state z × Settled z
candidate_used t key z c = let a = candidate_among t (header_of t) key z c in (among_used (header_of t) key z a.0 a.1, a.2)

-- what is taken in top and bottom stays taken, and keeps its key unless it could move before
abbrev Crowds : Table → Table → Type 0
Crowds t u = (z : Slot) → TakenSlot t z → Settled z → TakenSlot u z × ((key_in u z ≡ key_in t z) ⊎ ((to : Slot) × PermittedMove t (header_of t) z to))

module _ (t u : Table) (header : header_of u ≡ header_of t) (crowds : Crowds t u) where
  still_taken : (z : Slot) → InUse (header_of t).state z → Settled z → taken t (header_of t) z ≡ true → taken u (header_of t) z ≡ true
  still_taken z used s shown = rw header at (crowds z (record { used = used; shown = shown }) s).0.shown

  still_free : (z : Slot) → InUse (header_of t).state z → Settled z → taken u (header_of t) z ≡ false → taken t (header_of t) z ≡ false
  still_free z used s free = go (taken t (header_of t) z) refl
    where
      go : (b : Bool) → taken t (header_of t) z ≡ b → b ≡ false
      go true e = never (still_taken z used s e) free
      go false e = refl

  module _ (key : ℕ) (stuck : NoPlaceFor t (header_of t) key) where
    -- a move that would be permitted now was permitted before, or another one of the same item was
    no_move : (from to : Slot) → CandidateSlot (header_of t) key from → PermittedMove u (header_of t) from to → ⊥
    no_move from to c move = go (crowds from (record { used = a.0; shown = stuck.full from c }) a.1).1
      where
        a : InUse (header_of t).state from × Settled from
        a = candidate_used t key from c

        go : (key_in u from ≡ key_in t from) ⊎ ((goal : Slot) × PermittedMove t (header_of t) from goal) → ⊥
        go (inl same) =
            let g = candidate_used t (key_in u from) to (goal_candidate t (header_of t) key (key_in u from) from to move.slot move.goal) in
            stuck.stuck from to c
            (record { item = stuck.full from c; goal = rw same at move.goal; slot = move.slot; free = still_free to g.0 g.1 move.free })
        go (inr (goal, permitted)) = stuck.stuck from goal c permitted

    still_stuck : NoPlaceFor u (header_of u) key
    still_stuck = rw header (record {
      full = λ z c. let a = candidate_used t key z c in still_taken z a.0 a.1 (stuck.full z c);
      stuck = no_move;
    })

-- the item that made room could move before
room-made : (t : Table) (key : ℕ) (p : Placing) → placing t (header_of t) key ≡ p → {A : Type 0} (z : Slot) → A ⊎ ((to : Slot) × (p ≡ Move z to))
    → A ⊎ ((to : Slot) × PermittedMove t (header_of t) z to)
room-made t key p found z (inl a) = inl a
room-made t key p found z (inr (to, e)) = inr (to, (placing-permitted t (header_of t) key z to (found ∙ e)).1)

-- ---- a step

pub stuck_stays_stuck : StuckStaysStuck
unfolding outcome step_of
stuck_stays_stuck t n b stores sound e key stuck =
    by_item (step_item t (header_of t) b) refl (checked-listed _ stores (step_tests t (header_of t) b) (checked-listed _ stores (changing_tests t n) e))
  where
    by_item : (o : Option Slot) → step_item t (header_of t) b ≡ o → step_in t (header_of t) o ≡ listed stores
        → NoPlaceFor (made t stores) (header_of (made t stores)) key
    by_item none q f = never-listed f
    by_item (some x) q f =
        let first = step-item t b x q in
        let m = map_exists t sound in
        let s = taken_steps t m.0 (record { sound = sound; map = m.1 }) b x first in
        let crowds : Crowds t (made t (step_stores t (header_of t) x (placing t (header_of t) (key_in t x)))) =
        λ z a settled.
        let k = s.2 z a (λ same. not_interim x (rw same at settled) first.item.item.level) in
        (k.0, room-made t (key_in t x) _ refl z k.1) in
        rw (listed-one f) (still_stuck t _ s.0.header crowds key stuck)

-- ---- an insert

-- the interim items stay, and the placing of the key only crowds top and bottom
record Inserted (t u : Table) : Type 0 where
  pub header : header_of u ≡ header_of t
  pub crowds : Crowds t u
  pub stays : (y : Slot) → InterimItem t y → TakenSlot u y × (key_in u y ≡ key_in t y) × (record_in u y ≡ record_in t y)
  pub stood : (y : Slot) → TakenSlot u y → y.level ≡ interim → TakenSlot t y

module _ (t : Table) (m : PlainMap) (whole : SoundMap t m) (key : ℕ) (r : Record) where
  free-inserted : (x : Slot) → placing t (header_of t) key ≡ Free x → Inserted t (made t (placing_stores t (header_of t) (Free x) key r))
  unfolding placing_stores
  free-inserted x e =
      let f = placing-free t (header_of t) key x e in
      let used = among_used (header_of t) key x f.slot f.among in
      let stays = put-stays t m whole x used f.free key r f.among in
      record {
        header = (put_writes t m whole x used f.free key r f.among).near.header;
        crowds = λ z a s. let k = stays z a in (k.0, inl k.1);
        stays = λ y i. stays y i.item;
        stood = λ y a l.
            ⊎_elim (λ (same : y ≡ x). absurd (not_interim y (rw (← same) at f.level) l)) (λ (b : TakenSlot t y). b)
            (put_stood t m whole x used f.free key r f.among y a);
      }

  -- an item moves, and the key is put in its old slot
  module _ (from to : Slot) (e : placing t (header_of t) key ≡ Move from to) where
    freed : MoveFor t (header_of t) key from to
    freed = placing_move t (header_of t) key from to e

    used : InUse (header_of t).state from
    used = among_used (header_of t) key from freed.slot freed.among

    abbrev between : Table
    between = made t (move_stores t (header_of t) from to)

    moved : AfterMove t between m from to
    moved = move_whole t m whole from to (record { used = used; shown = freed.item })
        (among_used (header_of t) (key_in t from) to freed.goal.slot freed.goal.among) freed.goal.free freed.goal.among freed.apart

    abbrev after-put : Table
    after-put = made between (put_stores (header_of between) (token_of between from.bucket) from key r)

    same-table : after-put ≡ made t (placing_stores t (header_of t) (Move from to) key r)
    unfolding placing_stores
    same-table =
        let h = header_of t in
        let puts = put_stores h (hide h (token_of t from.bucket) from.slot) from key r in
        rw (moved.header, moved.token) (sym (made_append t (move_stores t h from to) puts))

    among : In (place_of from) (places_of (header_of between) key)
    among = rw moved.header freed.among

    there : InUse (header_of between).state from
    there = rw moved.header used

    -- where it stood there is the key now; all others stay
    crowded-twice : (z : Slot) → TakenSlot t z → Dec (z ≡ from)
        → TakenSlot after-put z × ((key_in after-put z ≡ key_in t z) ⊎ ((goal : Slot) × (Move from to ≡ Move z goal)))
    crowded-twice z a (yes same) = (rw same (put-shown between m moved.whole from there moved.free key r among), inr (to, rw same refl))
    crowded-twice z a (no other) =
        let first = moved.stays z a other in
        let second = put-stays between m moved.whole from there moved.free key r among z first.0 in
        (second.0, inl (second.1 ∙ first.1))

    move_inserted : Inserted t after-put
    move_inserted =
        record {
          header = (put_writes between m moved.whole from there moved.free key r among).near.header ∙ moved.header;
          crowds = λ z a s. let k = crowded-twice z a (slot_same z from) in (k.0, room-made t key (Move from to) e z k.1);
          stays = λ y i.
              let first = moved.stays y i.item (λ same. not_interim y (rw (← same) at freed.level) i.level) in
              let second = put-stays between m moved.whole from there moved.free key r among y first.0 in
              (second.0, second.1 ∙ first.1, second.2 ∙ first.2);
          stood = λ y a l.
              ⊎_elim (λ (same : y ≡ from). absurd (not_interim y (rw (← same) at freed.level) l))
              (λ (b : TakenSlot between y).
              ⊎_elim (λ (same : y ≡ to). absurd (not_interim y (rw (← same) at freed.goal.level) l))
              (λ (c : (y ≡ from → ⊥) × TakenSlot t y). c.1)
              (moved.stood y b))
              (put_stood between m moved.whole from there moved.free key r among y a);
        }

  by_placing : (p : Placing) → placing t (header_of t) key ≡ p → (stores : List Store)
      → placed_by p (placing_stores t (header_of t) p key r) ≡ listed stores
      → Inserted t (made t stores)
  by_placing (Free x) q stores f = rw (listed-one f) (free-inserted x q)
  by_placing (Move from to) q stores f = rw (listed-one f) (rw (same-table from to q) at (move_inserted from to q))
  by_placing Nowhere q stores f = never-listed f

pub inserts_give_no_place : InsertsGiveNoPlace
unfolding outcome
inserts_give_no_place t n key r stores sound e = told (look (lookup t (header_of t) key) (checked-listed _ stores (changing_tests t n) e))
  where
    look : (o : Lookup) → insert_in t (header_of t) o key r ≡ listed stores → Inserted t (made t stores)
    look (Stands x k) f = never-listed f
    look (Absent k) f = let m = map_exists t sound in by_placing t m.0 (record { sound = sound; map = m.1 }) key r (placing t (header_of t) key) refl stores f

    told : Inserted t (made t stores) → ((x : Slot) → InterimItem (made t stores) x ↔ InterimItem t x)
        × ((x : Slot) → InterimItem t x → (key_in (made t stores) x ≡ key_in t x) × (record_in (made t stores) x ≡ record_in t x))
        × ((other : ℕ) → NoPlaceFor t (header_of t) other → NoPlaceFor (made t stores) (header_of (made t stores)) other)
    told i = (
      λ x. (
        λ (u : InterimItem (made t stores) x). record { item = i.stood x u.item u.level; level = u.level },
        λ (u : InterimItem t x). record { item = (i.stays x u).0; level = u.level },
      ),
      λ x u. let k = i.stays x u in (k.1, k.2),
      λ other stuck. still_stuck t (made t stores) i.header i.crowds other stuck,
    )
