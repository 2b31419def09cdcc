-- The search for an item to move, as the rules list the candidates and as the code goes through them.
-- Assumes nothing.
use Prim.Native.Nat.{ℕ}
use mathlib.Core.Path.{◌≡◌, refl, ◌∙◌}
use mathlib.Core.Bool.{true, false}
use mathlib.Core.List.{List, [], ◌++◌, flat_map}
use mathlib.Core.Option.{Option, none, some}
use lib.ListN.{get_or}
use Rattle.rules.specs.Choice.{or_else, first_of}
use Rattle.rules.specs.Words.{Table, top_of, bottom_of, slots_in, slot_at}
use Rattle.rules.specs.Places.{hashes_of, places_in}
use Rattle.rules.specs.Placing.{free_slot, items_of, candidates, move_of}
use Rattle.rules.specs.declared.Header.{Header}
use Rattle.rules.specs.declared.Level.{Level}
use Rattle.rules.specs.declared.Hashes.{Hashes}
use Rattle.rules.specs.declared.Place.{Place}
use Rattle.rules.specs.declared.Slot.{Slot}
use Rattle.rules.specs.declared.Placing.{Placing}
use Rattle.rules.specs.declared.Placing.TheVariants.{Move}
use Rattle.rules.proofs.Basics.Lists.{first_of_append, first_of-map, first_of_flat_map}
use Rattle.rules.proofs.Basics.Along.{along}
use Rattle.placing.specs.Search.{optional, goals_of, item_move, bucket_move, place_move, places_move}
use Rattle.placing.specs.Buckets.{item_in, items_in, key_among}
use Rattle.placing.specs.declared.moves.Way.{Way}

module _ (t : Table) (h : Header) where
  -- one part of the candidates
  part : (w : Way) (ps : List Place) → first_of (move_of t h) (items_of t h ps (goals_of w)) ≡ places_move t h w ps
  unfolding items_of places_move place_move bucket_move item_move items_in item_in key_among slots_in slot_at
  part w ps = first_of-map (move_of t h) _ (flat_map slots_in ps) ∙ first_of_flat_map _ slots_in ps

  -- one item along its goals
  module _ (from : Slot) (goals : List Place) where
    pub item-moves : {to : Slot} → first_of (free_slot t h) goals ≡ some to → some (Move from to) ≡ move_of t h (record { item = from; goals = goals })
    unfolding move_of
    item-moves e = rw e

    pub item-stays : first_of (free_slot t h) goals ≡ none → none ≡ move_of t h (record { item = from; goals = goals })
    unfolding move_of
    item-stays e = rw e

  module _ (w : Way) where
    -- with the goals that the code found
    pub item-goals : {x : Hashes} (key : ℕ) (from : Slot) {goals : List Place} → x ≡ hashes_of h key → goals ≡ goals_of w x from
        → move_of t h (record { item = from; goals = goals }) ≡ move_of t h (record { item = from; goals = goals_of w (hashes_of h key) from })
    item-goals key from e g = rw (g, e)

    -- the item in slot s of a bucket by value
    pub item_of : (p : Place) (items : List (List ℕ)) (s : ℕ) {x : Slot} → x ≡ slot_at p s
        → move_of t h (record { item = x; goals = goals_of w (hashes_of h (get_or (get_or items s []) 0 0)) x }) ≡ item_move t h w items (slot_at p s)
    unfolding item_move key_among slot_at
    item_of p items s e = rw e

    pub bucket-all : (p : Place) (items : List (List ℕ)) → bucket_move t h w p items ≡ along (item_move t h w items) (slots_in p) 0
    unfolding bucket_move along
    bucket-all p items = refl

    -- the bucket at p, as it was read
    pub place_move_lem : (p : Place) {items : List (List ℕ)} → items ≡ items_in t p → bucket_move t h w p items ≡ place_move t h w p
    unfolding place_move
    place_move_lem p e = rw e

    pub places_all : (ps : List Place) → places_move t h w ps ≡ along (place_move t h w) ps 0
    unfolding places_move along
    places_all ps = refl

-- ---- the three parts

module _ (t : Table) (h : Header) (x : Hashes) {upper lower : Level} (u : upper ≡ top_of h.state) (v : lower ≡ bottom_of h.state) where
  -- where the items of each may go
  abbrev along_top : Way
  along_top = record { up = false; level = upper }

  abbrev along_bottom : Way
  along_bottom = record { up = false; level = lower }

  abbrev upward : Way
  upward = record { up = true; level = upper }

  -- the key's places in the two levels
  abbrev above : List Place
  above = places_in x upper

  abbrev below : List Place
  below = places_in x lower

  -- "those of the key's top places ..; those of its bottom places ..; those of its bottom places again .."
  three : first_of (move_of t h) (candidates t h x) ≡ or_else (or_else (places_move t h along_top above) (places_move t h along_bottom below))
      (places_move t h upward below)
  unfolding candidates goals_of
  three =
      let a = items_of t h above (goals_of along_top) in
      let b = items_of t h below (goals_of along_bottom) in
      let c = items_of t h below (goals_of upward) in
      rw (← u, ← v) (first_of_append (move_of t h) (a ++ b) c)
      ∙ joined (first_of_append (move_of t h) a b ∙ joined (part t h along_top above) (part t h along_bottom below)) (part t h upward below)
    where
      joined : {a b c d : Option Placing} → a ≡ b → c ≡ d → or_else a c ≡ or_else b d
      joined p q i = or_else (p i) (q i)

  module _ (p : Placing) (e : optional p ≡ places_move t h along_top above) where
    pub first_part : optional p ≡ some p → optional p ≡ first_of (move_of t h) (candidates t h x)
    first_part s = rw (three, ← e, s)

    module _ (n : optional p ≡ none) (q : Placing) (f : optional q ≡ places_move t h along_bottom below) where
      pub second-part : optional q ≡ some q → optional q ≡ first_of (move_of t h) (candidates t h x)
      second-part s = rw (three, ← e, n, ← f, s)

      pub third_part : (r : Placing) → optional q ≡ none → optional r ≡ places_move t h upward below → optional r ≡ first_of (move_of t h) (candidates t h x)
      third_part r m g = rw (three, ← e, n, ← f, m) g
