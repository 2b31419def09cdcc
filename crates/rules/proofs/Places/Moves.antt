-- Where a placing moves an item, both levels were full, and no earlier candidate in the listed order could move: every place
-- tried before, of an earlier candidate or of this one, has all its slots taken.
-- No theorem about maps sees this.
-- Assumes nothing.
use Prim.Native.Nat.{ℕ}
use mathlib.Core.Path.{◌≡◌, refl, sym, ap, ◌∙◌}
use mathlib.Core.List.{List, ◌∷◌, ◌++◌, Memᴰ as In}
use mathlib.Core.Bool.{true}
use mathlib.Core.Option.{Option, none, some, map, get_or}
use native.Mathlib.Omega.{arith}
use Rattle.rules.specs.Choice.{or_else, first_of}
use Rattle.rules.specs.Words.{Table, top_of, bottom_of, slots_in, place_of, taken}
use Rattle.rules.specs.Places.{hashes_of}
use Rattle.rules.specs.Placing.{free_slot, room_in, Candidate, candidates, move_of, placing}
use Rattle.rules.specs.declared.Header.{Header}
use Rattle.rules.specs.declared.Place.{Place}
use Rattle.rules.specs.declared.Slot.{Slot}
use Rattle.rules.specs.declared.Placing.{Placing}
use Rattle.rules.specs.declared.Placing.TheVariants.{Free, Move, Nowhere}
use Rattle.rules.proofs.Basics.Lists.{First, first_of-some, first_of-none, not_some}
use Rattle.rules.proofs.Words.FreeSlots.{Lowest, free-slot, all-taken}

-- every slot of a place is taken
abbrev pub Full : Table → Header → Place → Type 0
Full t h p = (s : Slot) → In s (slots_in p) → taken t h s ≡ true

pub record Moved (t : Table) (h : Header) (key : ℕ) (from to : Slot) : Type 0 where
  pub no_room-above : room_in t h (hashes_of h key) (top_of h.state) ≡ none
  pub no_room_below : room_in t h (hashes_of h key) (bottom_of h.state) ≡ none
  pub earlier : List Candidate
  pub goals-before : List Place
  pub goals-after : List Place
  pub later : List Candidate
  pub order : candidates t h (hashes_of h key) ≡ earlier ++ (record { item = from; goals = goals-before ++ (place_of to ∷ goals-after) } ∷ later)
  pub full-earlier : (c : Candidate) → In c earlier → (p : Place) → In p c.goals → Full t h p
  pub full-before : (p : Place) → In p goals-before → Full t h p
  pub lowest : Lowest t h (place_of to) to

module _ (t : Table) (h : Header) where
  -- a candidate that cannot move has no goal with a free slot
  pub stuck : (c : Candidate) → move_of t h c ≡ none → (p : Place) → In p c.goals → Full t h p
  unfolding move_of
  stuck c e p i = go (first_of (free_slot t h) c.goals) refl e
    where
      go : (o : Option Slot) → first_of (free_slot t h) c.goals ≡ o → map (λ (to : Slot). Move c.item to) o ≡ none → Full t h p
      go none q e = all-taken t h p (first_of-none (free_slot t h) c.goals q p i)
      go (some s) q e = absurd (let z : ◌≡◌ {A = ℕ} 0 1 = cc in omega arith)

  -- a candidate that moves, moves to the first of its goals that has a free slot
  goes : (c : Candidate) (from to : Slot) → move_of t h c ≡ some (Move from to) → (c.item ≡ from) × First (free_slot t h) c.goals to
  unfolding move_of
  goes c from to e = go (first_of (free_slot t h) c.goals) refl e
    where
      go : (o : Option Slot) → first_of (free_slot t h) c.goals ≡ o → map (λ (s : Slot). Move c.item s) o ≡ some (Move from to)
          → (c.item ≡ from) × First (free_slot t h) c.goals to
      go none q e = not_some e
      go (some s) q e = let k : s ≡ to = cc in (cc, first_of-some (free_slot t h) c.goals to (q ∙ ap some k))

  module _ (key : ℕ) (from to : Slot) where
    moved_of : room_in t h (hashes_of h key) (top_of h.state) ≡ none → room_in t h (hashes_of h key) (bottom_of h.state) ≡ none
        → First (move_of t h) (candidates t h (hashes_of h key)) (Move from to) → Moved t h key from to
    moved_of a b f =
        let g = goes f.found from to f.gives in
        let k = free-slot t h g.1.found to g.1.gives in
        record {
          no_room-above = a;
          no_room_below = b;
          earlier = f.earlier;
          later = f.later;
          goals-before = g.1.earlier;
          goals-after = g.1.later;
          order = f.split ∙ ap (λ (c : Candidate). f.earlier ++ (c ∷ f.later))
              (λ i. record { item = g.0 i; goals = (g.1.split ∙ ap (λ (p : Place). g.1.earlier ++ (p ∷ g.1.later)) (sym k.place)) i });
          full-earlier = λ c i p j. stuck c (f.before c i) p j;
          full-before = λ p i. all-taken t h p (g.1.before p i);
          lowest = rw k.place k;
        }

    pub move_first : placing t h key ≡ Move from to → Moved t h key from to
    unfolding placing
    move_first e = go (room_in t h (hashes_of h key) (top_of h.state)) (room_in t h (hashes_of h key) (bottom_of h.state))
        (first_of (move_of t h) (candidates t h (hashes_of h key))) refl refl refl e
      where
        go : (a b : Option Slot) (c : Option Placing) → room_in t h (hashes_of h key) (top_of h.state) ≡ a
            → room_in t h (hashes_of h key) (bottom_of h.state) ≡ b → first_of (move_of t h) (candidates t h (hashes_of h key)) ≡ c
            → get_or (or_else (map Free a) (or_else (map Free b) c)) Nowhere ≡ Move from to → Moved t h key from to
        go (some x) b c p q r e = absurd (let z : ◌≡◌ {A = ℕ} 0 1 = cc in omega arith)
        go none (some x) c p q r e = absurd (let z : ◌≡◌ {A = ℕ} 0 1 = cc in omega arith)
        go none none none p q r e = absurd (let z : ◌≡◌ {A = ℕ} 0 1 = cc in omega arith)
        go none none (some x) p q r e = moved_of p q (first_of-some (move_of t h) (candidates t h (hashes_of h key)) (Move from to) (r ∙ ap some e))
