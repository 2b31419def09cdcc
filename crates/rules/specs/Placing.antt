-- Document 01, "Placing": "Placing uses top and bottom only".
-- Assumes nothing.
use Rattle.std.specs.Prelude.{ℕ, Bool, true, false, not, cond, take, eqb, ltb}
use mathlib.Core.List.{List, ◌++◌, map, flat_map}
use Rattle.std.proofs.Math.Option
use Rattle.std.proofs.Math.Option.{Option, get_or}
use Rattle.rules.specs.Choice.{given, or_else, select, first_of}
use Rattle.rules.specs.Words.{Table, top_of, bottom_of, slots_in, key_in, token_of, taken_of, taken}
use Rattle.rules.specs.Places.{hashes_of, first_place, second_place, places_in}
use Rattle.rules.specs.declared.Header.{Header}
use Rattle.rules.specs.declared.Level.{Level}
use Rattle.rules.specs.declared.Hashes.{Hashes}
use Rattle.rules.specs.declared.Place.{Place}
use Rattle.rules.specs.declared.Slot.{Slot}
use Rattle.rules.specs.declared.Placing.{Placing}
use Rattle.rules.specs.declared.Placing.TheVariants.{Free, Move, Nowhere}

-- how many slots of a bucket are taken, and its "lowest free slot"
unfoldable pub taken_in : Table → Header → Place → ℕ
taken_in t h p = taken_of h (token_of t p.bucket)

unfoldable pub free_slot : Table → Header → Place → Option Slot
free_slot t h p = first_of (λ (x : Slot). given (not (taken t h x)) x) (slots_in p)

-- "the place with fewer taken slots (tie: first place)"
unfoldable pub fewer : Table → Header → Place → Place → Bool
fewer t h p q = ltb (taken_in t h p) (taken_in t h q)

unfoldable pub emptier : Table → Header → Place → Place → Place
emptier t h first second = cond (fewer t h second first) second first

-- 1. "In the top, the place with fewer taken slots (tie: first place), lowest free slot."
-- 2. "If both are full, the same in the bottom."
unfoldable pub room_in : Table → Header → Hashes → Level → Option Slot
room_in t h x l = free_slot t h (emptier t h (first_place x l) (second_place x l))

-- "the first bucket, of the item's first and second place in that order, that is not the one it stands in": the "other"
-- place, as a list of one place or of none
unfoldable pub other_place : Hashes → Level → Slot → List Place
other_place x l from = take 1 (select (λ (p : Place). not (eqb p.bucket from.bucket)) (places_in x l))

-- an item that may move: the slot where it stands, and the places that are tried for it, in order
pub record Candidate : Type 0 where
  pub item : Slot
  pub goals : List Place

-- the items of a key's places in a level, "first place, then second if different, slots 0 to 3"; each with the places
-- that `goals` gives for its own hashes
unfoldable pub items_of : Table → Header → List Place → (Hashes → Slot → List Place) → List Candidate
items_of t h places goals = map (λ (x : Slot). record { item = x; goals = goals (hashes_of h (key_in t x)) x }) (flat_map slots_in places)

-- 3. "The items tried, in order": "those of the key's top places, to the item's other top place; those of its bottom
-- places, to the item's other bottom place; those of its bottom places again, to the item's first top place, else its second"
unfoldable pub candidates : Table → Header → Hashes → List Candidate
candidates t h x =
    let upper = top_of h.state in
    let lower = bottom_of h.state in
    (items_of t h (places_in x upper) (λ y from. other_place y upper from)
    ++ items_of t h (places_in x lower) (λ y from. other_place y lower from))
    ++ items_of t h (places_in x lower) (λ y from. places_in y upper)

-- "The first item with a free slot there moves to the lowest one, and the new item takes its old slot."
unfoldable pub move_of : Table → Header → Candidate → Option Placing
move_of t h x = Option.map (λ (to : Slot). Move x.item to) (first_of (free_slot t h) x.goals)

-- 4. "Otherwise there is no place. So a placing is a free slot, a move of one slot to another, or nothing."
unfoldable pub placing : Table → Header → ℕ → Placing
placing t h key =
    let x = hashes_of h key in
    get_or (or_else (Option.map Free (room_in t h x (top_of h.state)))
    (or_else (Option.map Free (room_in t h x (bottom_of h.state)))
    (first_of (move_of t h) (candidates t h x)))) Nowhere

-- whether that is a place
abbrev pub somewhere : Placing → Bool
somewhere (Free x) = true
somewhere (Move from to) = true
somewhere Nowhere = false
