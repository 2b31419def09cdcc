-- "The items tried, in order": the candidates for a move, part by part, bucket by bucket and slot by slot, and the places tried
-- for each. E9 sees only the last part.
-- Assumes nothing.
use mathlib.Core.Path.{◌≡◌, refl, sym, ◌∙◌}
use mathlib.Core.List.{List, [], ◌∷◌, ◌++◌, flat_map}
use borrow.Author.Tests.{eq-eqb, ne_eqb}
use Rattle.rules.specs.Words.{Table, top_of, bottom_of, slot_at, slots_in, key_in}
use Rattle.rules.specs.Places.{hashes_of, first_place, second_place, places_in}
use Rattle.rules.specs.Placing.{other_place, Candidate, items_of, candidates}
use Rattle.rules.specs.declared.Header.{Header}
use Rattle.rules.specs.declared.Level.{Level}
use Rattle.rules.specs.declared.Hashes.{Hashes}
use Rattle.rules.specs.declared.Place.{Place}
use Rattle.rules.specs.declared.Slot.{Slot}
use Rattle.rules.proofs.Places.Probing.{places_one, places_two}

-- the "other" place of an item at `from`: its first place where it does not stand there; else its second where it does not
-- stand there; else none
module _ (y : Hashes) (l : Level) (from : Slot) where
  pub other-first : ((first_place y l).bucket ≡ from.bucket → ⊥) → other_place y l from ≡ first_place y l ∷ []
  unfolding other_place places_in
  other-first n = rw (ne_eqb _ _ n)

  pub other-second : (first_place y l).bucket ≡ from.bucket → ((second_place y l).bucket ≡ from.bucket → ⊥) → other_place y l from ≡ second_place y l ∷ []
  unfolding other_place
  other-second e n = rw (places_two y l (λ q. n (sym q ∙ e)), eq-eqb _ _ e, ne_eqb _ _ n)

  pub other_none : (first_place y l).bucket ≡ from.bucket → (second_place y l).bucket ≡ from.bucket → other_place y l from ≡ []
  unfolding other_place
  other_none e f = rw (places_one y l (e ∙ sym f), eq-eqb _ _ e)

module _ (t : Table) (h : Header) where
  candidate : (Hashes → Slot → List Place) → Slot → Candidate
  candidate goals x = record { item = x; goals = goals (hashes_of h (key_in t x)) x }

  -- the items of a bucket, "slots 0 to 3"
  pub items : (Hashes → Slot → List Place) → Place → List Candidate
  items goals p = candidate goals (slot_at p 0) ∷ candidate goals (slot_at p 1) ∷ candidate goals (slot_at p 2) ∷ candidate goals (slot_at p 3) ∷ []

  -- "in each part first place, then second if different"
  module _ (x : Hashes) (l : Level) (goals : Hashes → Slot → List Place) where
    pub items_one : (first_place x l).bucket ≡ (second_place x l).bucket → items_of t h (places_in x l) goals ≡ items goals (first_place x l)
    unfolding items_of slots_in flat_map items candidate
    items_one e = rw (places_one x l e)

    pub items_two : ((first_place x l).bucket ≡ (second_place x l).bucket → ⊥)
        → items_of t h (places_in x l) goals ≡ items goals (first_place x l) ++ items goals (second_place x l)
    unfolding items_of slots_in flat_map items candidate
    items_two n = rw (places_two x l n)

  -- "those of the key's top places, to the item's other top place; those of its bottom places, to the item's other bottom place;
  -- those of its bottom places again, to the item's first top place, else its second"
  pub listed-order : (x : Hashes) → candidates t h x
      ≡ (items_of t h (places_in x (top_of h.state)) (λ y from. other_place y (top_of h.state) from)
      ++ items_of t h (places_in x (bottom_of h.state)) (λ y from. other_place y (bottom_of h.state) from))
      ++ items_of t h (places_in x (bottom_of h.state)) (λ y from. places_in y (top_of h.state))
  unfolding candidates
  listed-order x = refl
