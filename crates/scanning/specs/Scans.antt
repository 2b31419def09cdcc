-- A scan of the taken slots as the code makes it: slot by slot, each with where the lookup of its key ends.
-- Assumes nothing.
use Rattle.std.specs.Prelude.{Bool, cond}
use mathlib.Core.List.{List, [], ◌∷◌, map, foldl}
use Rattle.rules.specs.Choice.{any}
use Rattle.rules.specs.Words.{Table, slots_in_use, place_of, key_in, taken}
use Rattle.rules.specs.Places.{same_place, places_of, lookup}
use Rattle.scanning.specs.Copying.{in_order, same_slot}
use Rattle.rules.specs.declared.Header.{Header}
use Rattle.rules.specs.declared.Slot.{Slot}
use Rattle.rules.specs.declared.Lookup.{Lookup}
use Rattle.rules.specs.declared.Lookup.TheVariants.{Stands, Absent}
use Rattle.scanning.specs.declared.copies.Scan.{Scan}
use Rattle.scanning.specs.declared.copies.Scan.TheVariants.{Clear, Pair, Spoilt}

-- one pair more
abbrev pub met_of : Scan → Slot × Slot → Scan
met_of Clear u = Pair u.0 u.1
met_of (Pair a b) u = Spoilt
met_of Spoilt u = Spoilt

-- slot x, whether it is "in a place of its key", and where the lookup of its key ends: there, or at another slot, its copy
abbrev pub ended_at : Scan → Slot → Bool → Lookup → Scan
ended_at found x placed (Stands y n) = cond (same_slot x y) found (cond placed (met_of found (in_order x y)) Spoilt)
ended_at found x placed (Absent n) = Spoilt

unfoldable pub item_met : Table → Header → Scan → Slot → Scan
item_met t h found x =
    ended_at found x (any (map (same_place (place_of x)) (places_of h (key_in t x)))) (lookup t h (key_in t x))

unfoldable pub slot_met : Table → Header → Scan → Slot → Scan
slot_met t h found x = cond (taken t h x) (item_met t h found x) found

-- all taken slots of the levels in use
unfoldable pub scan_of : Table → Header → Scan
scan_of t h = foldl (slot_met t h) Clear (slots_in_use h.state)

-- what a list of pairs is to recovery: none, one pair, or more
abbrev pub scanned : List (Slot × Slot) → Scan
scanned [] = Clear
scanned (p ∷ []) = Pair p.0 p.1
scanned (p ∷ (q ∷ l)) = Spoilt
