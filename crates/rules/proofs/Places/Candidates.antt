-- What is tried for a move, without the search: the items are the slots of the key's places in top and bottom, and an item's
-- goals are where it may go, by its level.
-- Assumes nothing.
use Prim.Native.Nat.{ℕ, ◌<◌}
use mathlib.Core.Path.{◌≡◌, refl, sym, ap, ◌∙◌}
use mathlib.Core.Bool.{Bool, true, false, cond}
use mathlib.Core.List.Memᴰ
use mathlib.Core.List.Memᴰ.{head as here}
use mathlib.Core.List.Memᴰ.{tail as there}
use mathlib.Core.List.{List, [], ◌∷◌, ◌++◌, flat_map, Memᴰ as In}
use mathlib.Core.Logic.{◌↔◌, ◌⊎◌, inl, inr, ⊎_elim}
use native.Mathlib.Omega.{arith}
use native.Mathlib.Decide.{ℕ_discrete}
use borrow.Author.Tests.{eqb-true}
use Rattle.rules.specs.Words.{Table, top_of, bottom_of, place_of, slots_in, place_at, key_in}
use Rattle.rules.specs.Places.{hashes_of, first_place, second_place, same_place, places_in}
use Rattle.rules.specs.Placing.{other_place, Candidate, items_of, candidates}
use Rattle.rules.specs.NoPlace.{AtPlace, CandidateSlot, AtOtherPlace, MayGo}
use Rattle.rules.specs.declared.Header.{Header}
use Rattle.rules.specs.declared.Level.{Level}
use Rattle.rules.specs.declared.Hashes.{Hashes}
use Rattle.rules.specs.declared.Place.{Place}
use Rattle.rules.specs.declared.Slot.{Slot}
use Rattle.rules.proofs.Basics.Lists.{map_in, in_map, flat_map_in, in_flat_map}
use Rattle.rules.proofs.Words.FreeSlots.{slot-place}
use Rattle.rules.proofs.Words.SlotsInUse.{slot-number, slots_of_place}
use Rattle.rules.proofs.Places.MoveOrder.{other-first, other-second, other_none}

-- ---- places

module _ (x : Hashes) (l : Level) where
  -- two places of one level are one where their buckets are
  one_place : (first_place x l).bucket ≡ (second_place x l).bucket → second_place x l ≡ first_place x l
  unfolding first_place second_place place_at
  one_place e = λ i. record { level = l.name; bucket = sym e i }

  pub place_among : (p : Place) → In p (places_in x l) ↔ ((p ≡ first_place x l) ⊎ (p ≡ second_place x l))
  unfolding places_in same_place
  place_among p = go (same_place (first_place x l) (second_place x l)) refl
    where
      go : (b : Bool) → same_place (first_place x l) (second_place x l) ≡ b
          → In p (first_place x l ∷ cond b [] (second_place x l ∷ [])) ↔ ((p ≡ first_place x l) ⊎ (p ≡ second_place x l))
      go true q = (
        λ i. inl (Memᴰ.eq_of_singleton i),
        λ s. here (⊎_elim (λ (e : p ≡ first_place x l). e) (λ (e : p ≡ second_place x l). e ∙ one_place (eqb-true _ _ q)) s),
      )
      go false q = (
        λ i. ⊎_elim (λ (e : p ≡ first_place x l). inl e) (λ (j : In p (second_place x l ∷ [])). inr (Memᴰ.eq_of_singleton j)) (Memᴰ.cases_cons i),
        λ s. ⊎_elim (λ (e : p ≡ first_place x l). here e) (λ (e : p ≡ second_place x l). there (here e)) s,
      )

  -- the slots of a key's places in a level
  at_place : (s : Slot) → In s (flat_map slots_in (places_in x l)) → AtPlace x l s
  at_place s i =
      let r = flat_map_in slots_in (places_in x l) s i in
      (slot-number r.0 s r.2, (place_among (place_of s)).0 (rw (slot-place r.0 s r.2) r.1))

  in_places : (s : Slot) → AtPlace x l s → In s (flat_map slots_in (places_in x l))
  in_places s a = in_flat_map slots_in ((place_among (place_of s)).1 a.1) (slots_of_place s a.0)

  other_place_lem : (from to : Slot) → In (place_of to) (other_place x l from) → AtOtherPlace x l from to
  other_place_lem from to i = go (ℕ_discrete (first_place x l).bucket from.bucket) (ℕ_discrete (second_place x l).bucket from.bucket)
    where
      go : Dec ((first_place x l).bucket ≡ from.bucket) → Dec ((second_place x l).bucket ≡ from.bucket) → AtOtherPlace x l from to
      go (no n) d = inl (Memᴰ.eq_of_singleton (rw (other-first x l from n) at i), n)
      go (yes e) (no n) = inr (Memᴰ.eq_of_singleton (rw (other-second x l from e n) at i), e, n)
      go (yes e) (yes f) = absurd (Memᴰ.not-nil (rw (other_none x l from e f) at i))

  in_other : (from to : Slot) → AtOtherPlace x l from to → In (place_of to) (other_place x l from)
  in_other from to (inl (e, n)) = rw (other-first x l from n) (here e)
  in_other from to (inr (e, f, n)) = rw (other-second x l from f n) (here e)

-- the level of a slot at a place
pub at_level : (x : Hashes) (l : Level) (s : Slot) → AtPlace x l s → s.level ≡ l.name
unfolding place_of first_place second_place place_at
at_level x l s (m, inl e) = ap (λ (p : Place). p.level) e
at_level x l s (m, inr e) = ap (λ (p : Place). p.level) e

-- ---- items

module _ (t : Table) (h : Header) where
  -- the item at a slot, with the goals that are tried for it
  tried : (Hashes → Slot → List Place) → Slot → Candidate
  tried goals x = record { item = x; goals = goals (hashes_of h (key_in t x)) x }

  module _ (x : Hashes) (l : Level) (goals : Hashes → Slot → List Place) where
    item-goal : (c : Candidate) (p : Place) → In c (items_of t h (places_in x l) goals) → In p c.goals
        → AtPlace x l c.item × In p (goals (hashes_of h (key_in t c.item)) c.item)
    unfolding items_of tried
    item-goal c p i j =
        let r = map_in (tried goals) (flat_map slots_in (places_in x l)) c i in
        let e : c.item ≡ r.0 = ap (λ (z : Candidate). z.item) r.2 in
        rw e (at_place x l r.0 r.1, rw (ap (λ (z : Candidate). z.goals) r.2) at j)

    goal-item : (from : Slot) (p : Place) → AtPlace x l from → In p (goals (hashes_of h (key_in t from)) from)
        → (c : Candidate) × In c (items_of t h (places_in x l) goals) × (c.item ≡ from) × In p c.goals
    unfolding items_of tried
    goal-item from p a j = (tried goals from, in_map (tried goals) (in_places x l from a), refl, j)

  module _ (key : ℕ) where
    -- the three parts: top items to their other top place, bottom items to their other bottom place, bottom items to the top
    upward : List Candidate
    upward = items_of t h (places_in (hashes_of h key) (bottom_of h.state)) (λ y from. places_in y (top_of h.state))

    across : Level → List Candidate
    across l = items_of t h (places_in (hashes_of h key) l) (λ y from. other_place y l from)

    pub candidate_goes : (c : Candidate) → In c (candidates t h (hashes_of h key)) → (to : Slot) → to.slot < 4 → In (place_of to) c.goals
        → CandidateSlot h key c.item × MayGo h (hashes_of h (key_in t c.item)) c.item to
    unfolding candidates upward across top_of bottom_of
    candidate_goes c i to m j =
        ⊎_elim (λ (a : In c (across upper ++ across lower)). ⊎_elim (λ (b : In c (across upper)). above b) (λ (b : In c (across lower)). below b)
        (Memᴰ.append_cases (across upper) a))
        (λ (a : In c upward). rising a) (Memᴰ.append_cases (across upper ++ across lower) i)
      where
        upper : Level
        upper = top_of h.state

        lower : Level
        lower = bottom_of h.state

        Goes : Type 0
        Goes = CandidateSlot h key c.item × MayGo h (hashes_of h (key_in t c.item)) c.item to

        above : In c (across upper) → Goes
        above b =
            let r = item-goal (hashes_of h key) upper _ c (place_of to) b j in
            (inl r.0, inl (at_level _ upper c.item r.0, other_place_lem _ upper c.item to r.1))

        below : In c (across lower) → Goes
        below b =
            let r = item-goal (hashes_of h key) lower _ c (place_of to) b j in
            (inr r.0, inr (inl (at_level _ lower c.item r.0, other_place_lem _ lower c.item to r.1)))

        rising : In c upward → Goes
        rising b =
            let r = item-goal (hashes_of h key) lower _ c (place_of to) b j in
            (inr r.0, inr (inr (at_level _ lower c.item r.0, (m, (place_among _ upper (place_of to)).0 r.1))))

    pub goes_candidate : (from to : Slot) → CandidateSlot h key from → MayGo h (hashes_of h (key_in t from)) from to
        → (c : Candidate) × In c (candidates t h (hashes_of h key)) × (c.item ≡ from) × In (place_of to) c.goals
    unfolding candidates upward across top_of bottom_of
    goes_candidate from to (inl a) (inl (e, o)) =
        let upper = top_of h.state in
        let lower = bottom_of h.state in
        let r = goal-item (hashes_of h key) upper (λ y from. other_place y upper from) from (place_of to) a (in_other _ upper from to o) in
        (r.0, Memᴰ.append_left upward (Memᴰ.append_left (across lower) r.1), r.2, r.3)
    goes_candidate from to (inl a) (inr (inl (e, o))) = absurd (omega (arith, at_level _ (top_of h.state) from a))
    goes_candidate from to (inl a) (inr (inr (e, o))) = absurd (omega (arith, at_level _ (top_of h.state) from a))
    goes_candidate from to (inr a) (inl (e, o)) = absurd (omega (arith, at_level _ (bottom_of h.state) from a))
    goes_candidate from to (inr a) (inr (inl (e, o))) =
        let upper = top_of h.state in
        let lower = bottom_of h.state in
        let r = goal-item (hashes_of h key) lower (λ y from. other_place y lower from) from (place_of to) a (in_other _ lower from to o) in
        (r.0, Memᴰ.append_left upward (Memᴰ.append_right (across upper) r.1), r.2, r.3)
    goes_candidate from to (inr a) (inr (inr (e, o))) =
        let upper = top_of h.state in
        let lower = bottom_of h.state in
        let r = goal-item (hashes_of h key) lower (λ y from. places_in y upper) from (place_of to) a ((place_among _ upper (place_of to)).1 o.1) in
        (r.0, Memᴰ.append_right (across upper ++ across lower) r.1, r.2, r.3)
