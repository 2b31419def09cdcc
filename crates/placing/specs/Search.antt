-- The search for a place as the code goes through it: item by item, bucket by bucket, part by part.
-- Assumes nothing.
use Rattle.std.specs.Prelude.{ℕ, cond, List}
use Rattle.std.proofs.Math.Option.{Option, none, some}
use Rattle.rules.specs.Choice.{first_of}
use Rattle.rules.specs.Words.{Table, slots_in}
use Rattle.rules.specs.Places.{hashes_of, places_in}
use Rattle.rules.specs.Placing.{other_place, move_of}
use Rattle.rules.specs.declared.Header.{Header}
use Rattle.rules.specs.declared.Hashes.{Hashes}
use Rattle.rules.specs.declared.Place.{Place}
use Rattle.rules.specs.declared.Slot.{Slot}
use Rattle.rules.specs.declared.Placing.{Placing}
use Rattle.rules.specs.declared.Placing.TheVariants.{Free, Move, Nowhere}
use Rattle.placing.specs.Buckets.{items_in, key_among}
use Rattle.placing.specs.declared.moves.Way.{Way}

-- what a placing is in the rules' searches, which give nothing where there is no place
abbrev pub optional : Placing → Option Placing
optional (Free x) = some (Free x)
optional (Move from to) = some (Move from to)
optional Nowhere = none

-- the places tried for an item with hashes y that stands at `from`
unfoldable pub goals_of : Way → Hashes → Slot → List Place
goals_of w y from = cond w.up (places_in y w.level) (other_place y w.level from)

-- the move of the item in slot x of a bucket that was read by value, and of such a bucket's items, "slots 0 to 3", the first that
-- can move
unfoldable pub item_move : Table → Header → Way → List (List ℕ) → Slot → Option Placing
item_move t h w items x = move_of t h (record { item = x; goals = goals_of w (hashes_of h (key_among items x.slot)) x })

unfoldable pub bucket_move : Table → Header → Way → Place → List (List ℕ) → Option Placing
bucket_move t h w p items = first_of (item_move t h w items) (slots_in p)

-- the same of the bucket that stands at a place, and of some places one after the other
unfoldable pub place_move : Table → Header → Way → Place → Option Placing
place_move t h w p = bucket_move t h w p (items_in t p)

unfoldable pub places_move : Table → Header → Way → List Place → Option Placing
places_move t h w ps = first_of (place_move t h w) ps
