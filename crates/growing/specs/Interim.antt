-- The first item of the interim level, and the first that has a place, as the code answers them.
-- Assumes nothing.
use Rattle.std.specs.Prelude.{◌≡◌, true, cond}
use Rattle.std.proofs.Math.Option.{Option, none, some}
use Rattle.rules.specs.Choice.{given, first_of}
use Rattle.rules.specs.Words.{Table, slots_in, key_in, taken}
use Rattle.rules.specs.Placing.{placing, somewhere}
use Rattle.rules.specs.Calls.{has_place}
use Rattle.rules.specs.declared.Header.{Header}
use Rattle.rules.specs.declared.Place.{Place}
use Rattle.rules.specs.declared.Slot.{Slot}
use Rattle.rules.specs.declared.Placing.TheVariants.{Nowhere}
use Rattle.reading.specs.Within.{SlotWithin, PlacingWithin}
use Rattle.growing.specs.declared.interim.Found.{Found}

-- a slot that is taken by an item that has a place; and the first such slot of a bucket
unfoldable pub placeable : Table → Header → Slot → Option Slot
placeable t h x = cond (taken t h x) (given (has_place t h x) x) none

unfoldable pub placeable_in : Table → Header → Place → Option Slot
placeable_in t h p = first_of (placeable t h) (slots_in p)

-- the answer of a search for such a slot, where the rules find o: the item and its placing, or no placing
unfoldable pub FoundBy : Table → Header → Option Slot → Found → Type 0
FoundBy t h (some x) r =
    (r.item ≡ x) × (r.placing ≡ placing t h (key_in t x)) × (somewhere r.placing ≡ true) × SlotWithin t x × PlacingWithin t r.placing
FoundBy t h none r = r.placing ≡ Nowhere
