-- A lent list with stores written to it from some pair on.
-- Assumes nothing.
use Rattle.std.specs.Prelude.{ℕ, ◌*◌, ◌^◌, ◌≤◌, ◌<◌, ◌≡◌, List, length}
use Rattle.std.proofs.lemmas.List.Edits.{sets}
use Rattle.rules.specs.Words.{Table}
use Rattle.rules.specs.Stores.{Store, flat}
use Rattle.rules.specs.declared.Slot.{Slot}
use Rattle.rules.specs.declared.Placing.{Placing}
use Rattle.rules.specs.declared.Placing.TheVariants.{Free, Move, Nowhere}
use Rattle.reading.specs.Within.{PlacingWithin}

-- list l has room for n pairs
abbrev pub Room : List ℕ → ℕ → Type 0
Room l n = 2 * n ≤ length l

-- list l with the stores as its pairs n, n + 1, ..
unfoldable pub listed_at : List ℕ → ℕ → List Store → List ℕ
listed_at l n stores = sets l (2 * n) (flat stores)

-- a slot whose words have an index that fits a word
abbrev pub Addressed : Slot → Type 0
Addressed x = (x.bucket < 2 ^ 32) × (x.slot < 4)

-- n stores, written from the front of list l, give list m
abbrev pub Run : ℕ → List ℕ → List ℕ → List Store → Type 0
Run n l m stores = (n ≡ length stores) × (m ≡ listed_at l 0 stores)

-- the new item of a placing takes slot x
unfoldable pub Takes : Table → Placing → Slot → Type 0
Takes t (Free y) x = (x ≡ y) × PlacingWithin t (Free y)
Takes t (Move from to) x = (x ≡ from) × PlacingWithin t (Move from to)
Takes t Nowhere x = ⊥
