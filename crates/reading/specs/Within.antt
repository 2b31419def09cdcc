-- What the code asks of a bucket or a slot before it reads its words: that they lie in the table.
-- Assumes nothing.
use Rattle.std.specs.Prelude.{ℕ, ◌+◌, ◌*◌, ◌≤◌, ◌<◌, length, Option as Answer, Some, None}
use Rattle.std.proofs.Math.Option.{Option, none, some}
use mathlib.Core.List.{List, Memᴰ as In}
use Rattle.rules.specs.Words.{Table}
use Rattle.rules.specs.declared.Place.{Place}
use Rattle.rules.specs.declared.Slot.{Slot}
use Rattle.rules.specs.declared.Lookup.{Lookup}
use Rattle.rules.specs.declared.Lookup.TheVariants.{Stands, Absent}
use Rattle.rules.specs.declared.Placing.{Placing}
use Rattle.rules.specs.declared.Placing.TheVariants.{Free, Move, Nowhere}

-- all the words of bucket j, one token word and twelve of its slots
abbrev pub BucketWithin : Table → ℕ → Type 0
BucketWithin t j = 9 + 13 * j + 13 ≤ length t

abbrev pub SlotWithin : Table → Slot → Type 0
SlotWithin t x = BucketWithin t x.bucket × (x.slot < 4)

abbrev pub AllWithin : Table → List Place → Type 0
AllWithin t ps = (p : Place) → In p ps → BucketWithin t p.bucket

-- where a lookup finds the key
abbrev pub Standing : Table → Lookup → Type 0
Standing t (Stands x n) = SlotWithin t x
Standing t (Absent n) = Unit {0}

-- a slot of the rules' searches, as the code answers it; and where it lies
abbrev pub slot_found : Option Slot → Answer Slot
slot_found (some x) = Some x
slot_found none = None

abbrev pub FoundWithin : Table → Answer Slot → Type 0
FoundWithin t (Some x) = SlotWithin t x
FoundWithin t None = Unit {0}

-- the slots of a placing
abbrev pub PlacingWithin : Table → Placing → Type 0
PlacingWithin t (Free x) = SlotWithin t x
PlacingWithin t (Move from to) = SlotWithin t from × SlotWithin t to
PlacingWithin t Nowhere = Unit {0}
