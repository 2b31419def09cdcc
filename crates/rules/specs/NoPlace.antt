-- What "no place" means, without the search for one: "every candidate slot is taken and no single permitted move frees one".
-- Assumes nothing.
use Rattle.std.specs.Prelude.{ℕ, ◌<◌, ◌≡◌, true, false, ◌⊎◌}
use Rattle.rules.specs.Words.{Table, top, bottom, top_of, bottom_of, place_of, key_in, taken}
use Rattle.rules.specs.Places.{hashes_of, first_place, second_place}
use Rattle.rules.specs.declared.Header.{Header}
use Rattle.rules.specs.declared.Level.{Level}
use Rattle.rules.specs.declared.Hashes.{Hashes}
use Rattle.rules.specs.declared.Slot.{Slot}

-- a slot of the first or the second place, in a level, of a key with hashes y
abbrev pub AtPlace : Hashes → Level → Slot → Type 0
AtPlace y l x = (x.slot < 4) × ((place_of x ≡ first_place y l) ⊎ (place_of x ≡ second_place y l))

-- "Placing uses top and bottom only"
abbrev pub CandidateSlot : Header → ℕ → Slot → Type 0
CandidateSlot h key x = AtPlace (hashes_of h key) (top_of h.state) x ⊎ AtPlace (hashes_of h key) (bottom_of h.state) x

-- the "other" place: "the first bucket, of the item's first and second place in that order, that is not the one it stands in"
abbrev pub AtOtherPlace : Hashes → Level → Slot → Slot → Type 0
AtOtherPlace y l from to =
    ((place_of to ≡ first_place y l) × ((first_place y l).bucket ≡ from.bucket → ⊥))
    ⊎ ((place_of to ≡ second_place y l) × ((first_place y l).bucket ≡ from.bucket) × ((second_place y l).bucket ≡ from.bucket → ⊥))

-- where an item may go: one of the top "to the item's other top place"; one of the bottom "to the item's other bottom place"
-- or "to the item's first top place, else its second". "A top item never moves down."
abbrev pub MayGo : Header → Hashes → Slot → Slot → Type 0
MayGo h y from to =
    ((from.level ≡ top) × AtOtherPlace y (top_of h.state) from to)
    ⊎ (((from.level ≡ bottom) × AtOtherPlace y (bottom_of h.state) from to)
    ⊎ ((from.level ≡ bottom) × AtPlace y (top_of h.state) to))

-- a permitted move of one slot to another
pub record PermittedMove (t : Table) (h : Header) (from to : Slot) : Type 0 where
  pub item : taken t h from ≡ true
  pub goal : MayGo h (hashes_of h (key_in t from)) from to
  pub slot : to.slot < 4
  pub free : taken t h to ≡ false

pub record NoPlaceFor (t : Table) (h : Header) (key : ℕ) : Type 0 where
  pub full : (x : Slot) → CandidateSlot h key x → taken t h x ≡ true
  pub stuck : (from to : Slot) → CandidateSlot h key from → PermittedMove t h from to → ⊥
