-- What a placing means, without the search: a free slot in a place of the key, in top or bottom; a permitted move of an item
-- that stands in such a place; or "every candidate slot is taken and no single permitted move frees one". On every table.
-- Assumes nothing.
use Prim.Native.Nat.{ℕ, ◌<◌, ◌≤◌}
use mathlib.Core.Path.{◌≡◌, refl, sym, ap, ◌∙◌}
use mathlib.Core.Bool.{Bool, true, false, cond}
use mathlib.Core.List.Memᴰ
use mathlib.Core.List.Memᴰ.{head as here}
use mathlib.Core.List.Memᴰ.{tail as there}
use mathlib.Core.List.{◌∷◌, ◌++◌, Memᴰ as In}
use mathlib.Core.Logic.{◌↔◌, ◌⊎◌, inl, inr, ⊎_elim}
use mathlib.Core.Option.{Option, none, some, map, get_or}
use native.Mathlib.Omega.{arith}
use borrow.Author.Tests.{ltb-true, ltb-false}
use Rattle.rules.specs.Choice.{or_else, first_of}
use Rattle.rules.specs.Words.{Table, top, bottom, top_of, bottom_of, levels_in_use, slot_at, slots_in, place_of, key_in, token_of, is_taken, slots}
use Rattle.rules.specs.Words.{taken_of, taken}
use Rattle.rules.specs.Places.{hashes_of, first_place, second_place, probes, places_of}
use Rattle.rules.specs.Placing.{taken_in, free_slot, fewer, emptier, room_in, Candidate, candidates, move_of, placing, somewhere}
use Rattle.rules.specs.NoPlace.{AtPlace, CandidateSlot, MayGo, PermittedMove, NoPlaceFor}
use Rattle.rules.specs.declared.Header.{Header}
use Rattle.rules.specs.declared.Level.{Level}
use Rattle.rules.specs.declared.Hashes.{Hashes}
use Rattle.rules.specs.declared.Place.{Place}
use Rattle.rules.specs.declared.Slot.{Slot}
use Rattle.rules.specs.declared.Placing.{Placing}
use Rattle.rules.specs.declared.Placing.TheVariants.{Free, Move, Nowhere}
use Rattle.rules.proofs.Basics.Lists.{never, not_some, first_of-some, first_of-none, select_most, select-whole, select-all, map_in, in_map, in_flat_map}
use Rattle.rules.proofs.Words.FreeSlots.{all-taken}
use Rattle.rules.proofs.Words.SlotsInUse.{slot-number, slots_of_place}
use Rattle.rules.proofs.Places.Chosen.{Chosen, free_chosen}
use Rattle.rules.proofs.Places.Moves.{Full, stuck, move_first}
use Rattle.rules.proofs.Places.Candidates.{place_among, at_level, candidate_goes, goes_candidate}

-- a free slot for a key: of one of its places in top or bottom
pub record FreeFor (t : Table) (h : Header) (key : ℕ) (x : Slot) : Type 0 where
  pub slot : x.slot < 4
  pub among : In (place_of x) (places_of h key)
  pub level : (x.level ≡ top) ⊎ (x.level ≡ bottom)
  pub free : taken t h x ≡ false

-- a move that makes room for a key: an item of one of its places in top or bottom goes to a free slot for the item's own key, in another bucket
pub record MoveFor (t : Table) (h : Header) (key : ℕ) (from to : Slot) : Type 0 where
  pub slot : from.slot < 4
  pub among : In (place_of from) (places_of h key)
  pub level : (from.level ≡ top) ⊎ (from.level ≡ bottom)
  pub item : taken t h from ≡ true
  pub goal : FreeFor t h (key_in t from) to
  pub apart : from.bucket ≡ to.bucket → ⊥

-- ---- full places

module _ (t : Table) (h : Header) where
  taken_most : (p : Place) → taken_in t h p ≤ 4
  unfolding taken_in taken_of
  taken_most p = select_most (is_taken h (token_of t p.bucket)) slots

  full_of_count : (p : Place) → taken_in t h p ≡ 4 → Full t h p
  unfolding taken_in taken_of slots_in slot_at taken
  full_of_count p e s i = let r = map_in (slot_at p) slots s i in rw r.2 (select-whole (is_taken h (token_of t p.bucket)) slots e r.0 r.1)

  count_of_full : (p : Place) → Full t h p → taken_in t h p ≡ 4
  unfolding taken_in taken_of slots_in slot_at taken
  count_of_full p f = select-all (is_taken h (token_of t p.bucket)) slots (λ z i. f (slot_at p z) (in_map (slot_at p) i))

  -- no room in a level: both places are full
  no_room : (x : Hashes) (l : Level) → room_in t h x l ≡ none → Full t h (first_place x l) × Full t h (second_place x l)
  unfolding room_in emptier fewer
  no_room x l e = go (fewer t h (second_place x l) (first_place x l)) refl e
    where
      go : (b : Bool) → fewer t h (second_place x l) (first_place x l) ≡ b → free_slot t h (cond b (second_place x l) (first_place x l)) ≡ none
          → Full t h (first_place x l) × Full t h (second_place x l)
      go true q e =
          let less : taken_in t h (second_place x l) < taken_in t h (first_place x l) = ltb-true _ _ q in
          absurd (omega (arith, taken_most (first_place x l), count_of_full (second_place x l) (all-taken t h (second_place x l) e)))
      go false q e =
          let full = all-taken t h (first_place x l) e in
          let most : taken_in t h (first_place x l) ≤ taken_in t h (second_place x l) = ltb-false _ _ q in
          (full, full_of_count (second_place x l) (omega (arith, taken_most (second_place x l), count_of_full (first_place x l) full)))

  -- ---- the slots that are tried

  -- a slot of a candidate's place is a slot of one of the key's places
  pub candidate_among : (key : ℕ) (x : Slot) → CandidateSlot h key x
      → (x.slot < 4) × In (place_of x) (places_of h key) × ((x.level ≡ top) ⊎ (x.level ≡ bottom))
  unfolding places_of probes levels_in_use top_of bottom_of
  candidate_among key x (inl a) =
      (a.0, in_flat_map _ (here refl) ((place_among _ (top_of h.state) (place_of x)).1 a.1), inl (at_level _ (top_of h.state) x a))
  candidate_among key x (inr a) =
      (a.0, in_flat_map _ (there (here refl)) ((place_among _ (bottom_of h.state) (place_of x)).1 a.1), inr (at_level _ (bottom_of h.state) x a))

  free_for : (key : ℕ) (x : Slot) → CandidateSlot h key x → taken t h x ≡ false → FreeFor t h key x
  free_for key x a f = let r = candidate_among key x a in record { slot = r.0; among = r.1; level = r.2; free = f }

  -- both levels full: every candidate slot is taken
  at_full : (x : Hashes) (l : Level) → room_in t h x l ≡ none → (s : Slot) → AtPlace x l s → taken t h s ≡ true
  at_full x l e s (m, inl p) = (no_room x l e).0 s (rw p at (slots_of_place s m))
  at_full x l e s (m, inr p) = (no_room x l e).1 s (rw p at (slots_of_place s m))

  module _ (key : ℕ) (above : room_in t h (hashes_of h key) (top_of h.state) ≡ none)
      (below : room_in t h (hashes_of h key) (bottom_of h.state) ≡ none) where
    candidates-taken : (x : Slot) → CandidateSlot h key x → taken t h x ≡ true
    candidates-taken x (inl a) = at_full _ (top_of h.state) above x a
    candidates-taken x (inr a) = at_full _ (bottom_of h.state) below x a

    -- a free slot is in no candidate's bucket
    free_elsewhere : (x to : Slot) → CandidateSlot h key x → to.slot < 4 → taken t h to ≡ false → x.bucket ≡ to.bucket → ⊥
    unfolding taken place_of
    free_elsewhere x to a m f e = never (rw e at (candidates-taken (record { level = x.level; bucket = x.bucket; slot = to.slot }) beside)) f
      where
        beside : CandidateSlot h key (record { level = x.level; bucket = x.bucket; slot = to.slot })
        beside = ⊎_elim (λ (b : AtPlace (hashes_of h key) (top_of h.state) x). inl (m, b.1))
            (λ (b : AtPlace (hashes_of h key) (bottom_of h.state) x). inr (m, b.1)) a

-- ---- the placing

module _ (t : Table) (h : Header) (key : ℕ) where
  placing_candidate : (x : Slot) → placing t h key ≡ Free x → CandidateSlot h key x × (taken t h x ≡ false)
  placing_candidate x e = go (free_chosen t h key x e)
    where
      go : Chosen t h (hashes_of h key) (top_of h.state) x
          ⊎ ((room_in t h (hashes_of h key) (top_of h.state) ≡ none) × Chosen t h (hashes_of h key) (bottom_of h.state) x)
          → CandidateSlot h key x × (taken t h x ≡ false)
      go (inl c) = (inl (slot-number (place_of x) x c.lowest.inside, c.among), c.lowest.free)
      go (inr (n, c)) = (inr (slot-number (place_of x) x c.lowest.inside, c.among), c.lowest.free)

  pub placing-permitted : (from to : Slot) → placing t h key ≡ Move from to → CandidateSlot h key from × PermittedMove t h from to
  placing-permitted from to e =
      let r = move_first t h key from to e in
      let less = slot-number (place_of to) to r.lowest.inside in
      let c : Candidate = record { item = from; goals = r.goals-before ++ (place_of to ∷ r.goals-after) } in
      let g = candidate_goes t h key c (rw r.order (Memᴰ.append_right r.earlier (here refl))) to less
      (Memᴰ.append_right r.goals-before (here refl)) in
      (g.0, record { item = candidates-taken t h key r.no_room-above r.no_room_below from g.0; goal = g.1; slot = less; free = r.lowest.free })

  pub placing-free : (x : Slot) → placing t h key ≡ Free x → FreeFor t h key x
  placing-free x e = let r = placing_candidate x e in free_for t h key x r.0 r.1

  -- where an item may go is a slot of one of its own places
  pub goal_candidate : (y : ℕ) (from to : Slot) → to.slot < 4 → MayGo h (hashes_of h y) from to → CandidateSlot h y to
  goal_candidate y from to m (inl (e, inl (p, n))) = inl (m, inl p)
  goal_candidate y from to m (inl (e, inr (p, f, n))) = inl (m, inr p)
  goal_candidate y from to m (inr (inl (e, inl (p, n)))) = inr (m, inl p)
  goal_candidate y from to m (inr (inl (e, inr (p, f, n)))) = inr (m, inr p)
  goal_candidate y from to m (inr (inr (e, a))) = inl a

  pub placing_move : (from to : Slot) → placing t h key ≡ Move from to → MoveFor t h key from to
  placing_move from to e =
      let r = move_first t h key from to e in
      let p = placing-permitted from to e in
      let a = candidate_among t h key from p.0 in
      record {
        slot = a.0;
        among = a.1;
        level = a.2;
        item = p.1.item;
        goal = free_for t h (key_in t from) to (goal_candidate (key_in t from) from to p.1.slot p.1.goal) p.1.free;
        apart = free_elsewhere t h key r.no_room-above r.no_room_below from to p.0 p.1.slot p.1.free;
      }

  -- a candidate that moves does not go nowhere
  goes_somewhere : (c : Candidate) → move_of t h c ≡ some Nowhere → ⊥
  unfolding move_of
  goes_somewhere c e = go (first_of (free_slot t h) c.goals) e
    where
      go : (o : Option Slot) → map (λ (to : Slot). Move c.item to) o ≡ some Nowhere → ⊥
      go none e = not_some e
      go (some to) e = let z : ◌≡◌ {A = ℕ} 0 1 = cc in omega arith

  nothing-found : placing t h key ≡ Nowhere
      → (room_in t h (hashes_of h key) (top_of h.state) ≡ none) × (room_in t h (hashes_of h key) (bottom_of h.state) ≡ none)
      × (first_of (move_of t h) (candidates t h (hashes_of h key)) ≡ none)
  unfolding placing
  nothing-found e = go (room_in t h (hashes_of h key) (top_of h.state)) (room_in t h (hashes_of h key) (bottom_of h.state))
      (first_of (move_of t h) (candidates t h (hashes_of h key))) refl e
    where
      go : (a b : Option Slot) (c : Option Placing) → first_of (move_of t h) (candidates t h (hashes_of h key)) ≡ c
          → get_or (or_else (map Free a) (or_else (map Free b) c)) Nowhere ≡ Nowhere → (a ≡ none) × (b ≡ none) × (c ≡ none)
      go (some x) b c r e = absurd (let z : ◌≡◌ {A = ℕ} 0 1 = cc in omega arith)
      go none (some x) c r e = absurd (let z : ◌≡◌ {A = ℕ} 0 1 = cc in omega arith)
      go none none (some x) r e =
          let f = first_of-some (move_of t h) (candidates t h (hashes_of h key)) x r in
          absurd (goes_somewhere f.found (f.gives ∙ ap some e))
      go none none none r e = (refl, refl, refl)

  -- "no place" exactly when "every candidate slot is taken and no single permitted move frees one"
  pub no_place_lem : (placing t h key ≡ Nowhere) ↔ NoPlaceFor t h key
  no_place_lem = (missing, λ n. none_found n (placing t h key) refl)
    where
      missing : placing t h key ≡ Nowhere → NoPlaceFor t h key
      missing e =
          let r = nothing-found e in
          record {
            full = candidates-taken t h key r.0 r.1;
            stuck = λ from to a m.
                let g = goes_candidate t h key from to a m.goal in
                let none-goes = first_of-none (move_of t h) (candidates t h (hashes_of h key)) r.2 g.0 g.1 in
                never (stuck t h g.0 none-goes (place_of to) g.3 to (slots_of_place to m.slot)) m.free;
          }

      none_found : NoPlaceFor t h key → (p : Placing) → placing t h key ≡ p → p ≡ Nowhere
      none_found n (Free x) q = let r = placing_candidate x q in never (n.full x r.0) r.1
      none_found n (Move from to) q = let r = placing-permitted from to q in absurd (n.stuck from to r.0 r.1)
      none_found n Nowhere q = refl

  -- a free slot or a move is a place
  pub some-place : (p : Placing) → somewhere p ≡ true → placing t h key ≡ p → NoPlaceFor t h key → ⊥
  some-place p s e n = never s (ap somewhere (sym e ∙ no_place_lem.1 n))

  pub none-somewhere : (p : Placing) → somewhere p ≡ false → placing t h key ≡ p → NoPlaceFor t h key
  none-somewhere (Free x) s e = never refl s
  none-somewhere (Move from to) s e = never refl s
  none-somewhere Nowhere s e = no_place_lem.0 e

  pub placed-somewhere : (NoPlaceFor t h key → ⊥) → somewhere (placing t h key) ≡ true
  placed-somewhere f = go (placing t h key) refl
    where
      go : (p : Placing) → placing t h key ≡ p → somewhere p ≡ true
      go (Free x) e = refl
      go (Move from to) e = refl
      go Nowhere e = absurd (f (no_place_lem.0 e))
