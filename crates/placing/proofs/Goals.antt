-- The places tried for an item: which they are, and that they lie in the table.
-- Assumes nothing.
use Prim.Native.Nat.{ℕ, zero, suc, ◌-◌, ◌*◌, ◌≤◌, ◌<◌}
use mathlib.Core.Path.{◌≡◌}
use mathlib.Core.Bool.{Bool, true, false, not, cond}
use mathlib.Core.List.Memᴰ
use mathlib.Core.List.Memᴰ.{head as here}
use mathlib.Core.List.Memᴰ.{tail as there}
use mathlib.Core.List.{List, [], ◌∷◌, Memᴰ as In}
use mathlib.Core.Logic.{⊎_elim}
use native.Mathlib.Omega.{arith}
use lib.ListN.{length, take}
use lib.Pow.{pow_pos}
use lib.Dec.{eqb}
use Rattle.rules.specs.Words.{Table, GoodState, GoodHeader, at_rest, size_of, top_of, bottom_of, levels_in_use}
use Rattle.rules.specs.Places.{first_place, second_place, places_in}
use Rattle.rules.specs.Placing.{other_place}
use Rattle.rules.specs.declared.Header.{Header}
use Rattle.rules.specs.declared.Level.{Level}
use Rattle.rules.specs.declared.Hashes.{Hashes}
use Rattle.rules.specs.declared.Place.{Place}
use Rattle.rules.specs.declared.Slot.{Slot}
use Rattle.rules.proofs.Basics.Lists.{select_in}
use Rattle.rules.proofs.Basics.Walks.{get_d_in}
use Rattle.rules.proofs.Words.Headers.{header-state, bucket-fits}
use Rattle.rules.proofs.Words.Levels.{levels_counted, top-used, bottom-used, exponent-fits}
use Rattle.rules.proofs.Places.MoveOrder.{other-first, other-second, other_none}
use Rattle.rules.proofs.Places.PlacesWithin.{place_in_level}
use Rattle.reading.specs.Gates.{Headed}
use Rattle.reading.specs.Within.{BucketWithin, AllWithin}
use Rattle.reading.specs.Levels.{nth_level, place_in}
use Rattle.placing.specs.Within.{LevelWithin}
use Rattle.placing.specs.Search.{goals_of}
use Rattle.placing.specs.declared.moves.Way.{Way}

-- what an array of places has past its end
abbrev pub past : Place
past = record { level = 0; bucket = 0 }

-- ---- which they are

module _ (w : Way) (y : Hashes) (from : Slot) where
  pub goals_up : w.up ≡ true → places_in y w.level ≡ goals_of w y from
  unfolding goals_of
  goals_up u = rw u

  module _ (u : w.up ≡ false) {f : Place} (p : f ≡ place_in w.level y.first) where
    pub goals-first : (f.bucket ≡ from.bucket → ⊥) → f ∷ [] ≡ goals_of w y from
    unfolding goals_of first_place
    goals-first n = rw (u, p, other-first y w.level from (rw p at n))

    module _ (e : f.bucket ≡ from.bucket) {s : Place} (q : s ≡ place_in w.level y.second) where
      pub goals-second : (s.bucket ≡ from.bucket → ⊥) → s ∷ [] ≡ goals_of w y from
      unfolding goals_of first_place second_place
      goals-second n = rw (u, q, other-second y w.level from (rw p at e) (rw q at n))

      pub goals-none : s.bucket ≡ from.bucket → [] ≡ goals_of w y from
      unfolding goals_of first_place second_place
      goals-none g = rw (u, other_none y w.level from (rw p at e) (rw q at g))

-- ---- that they lie in the table

take_in : {A : Type 0} (n : ℕ) (l : List A) (x : A) → In x (take n l) → In x l
take_in zero l x i = absurd (Memᴰ.not-nil i)
take_in (suc n) [] x i = i
take_in (suc n) (y ∷ l) x i = ⊎_elim (λ (e : x ≡ y). here e) (λ (j : In x (take n l)). there (take_in n l x j)) (Memᴰ.cases_cons i)

-- a level in use of a table with a good header lies in the table
level-within : (t : Table) (h : Header) → GoodHeader (length t) h → (l : Level) → In l (levels_in_use h.state) → LevelWithin t l
level-within t h g l i =
    let fits = exponent-fits h.c h.state g.state l i in
    let last = bucket-fits (length t) h g l.exponent (2 * size_of l - 2) fits (omega (arith, pow_pos l.exponent)) in
    (omega (arith, g.capacity.1), omega (arith, pow_pos l.exponent))

pub top_within : (t : Table) (h : Header) → GoodHeader (length t) h → {l : Level} → l ≡ top_of h.state → LevelWithin t l
top_within t h g e = rw e (level-within t h g (top_of h.state) (top-used h.state))

pub bottom-within : (t : Table) (h : Header) → GoodHeader (length t) h → {l : Level} → l ≡ bottom_of h.state → LevelWithin t l
bottom-within t h g e = rw e (level-within t h g (bottom_of h.state) (bottom-used h.state))

-- what the search for room asks of the n-th level in use
pub room-asked : {t : Table} {h : Header} → Headed t h → (n : ℕ) → n ≤ 1
    → GoodState 20 h.state × (n < length (levels_in_use h.state)) × LevelWithin t (nth_level h.state n)
room-asked {t} {h} headed n l =
    let g = headed.good in
    let used : n < length (levels_in_use h.state) = omega (arith, two (at_rest h.state), levels_counted h.state) in
    (header-state (length t) h g, used, level-within t h g (nth_level h.state n) (get_d_in (top_of h.state) (levels_in_use h.state) n used))
  where
    two : (b : Bool) → 2 ≤ cond b 2 3
    two true = omega arith
    two false = omega arith

module _ (t : Table) (l : Level) (w : LevelWithin t l) (y : Hashes) where
  pub level_places : AllWithin t (places_in y l)
  level_places p i = omega (arith, (place_in_level y l p i).2)

  other_places : (from : Slot) → AllWithin t (other_place y l from)
  unfolding other_place
  other_places from p i = level_places p (select_in (λ (p : Place). not (eqb p.bucket from.bucket)) (places_in y l) p (take_in 1 _ p i)).0

pub goals-within : (t : Table) (w : Way) → LevelWithin t w.level → (y : Hashes) (from : Slot) → AllWithin t (goals_of w y from)
unfolding goals_of
goals-within t w l y from p i = go w.up i
  where
    go : (b : Bool) → In p (cond b (places_in y w.level) (other_place y w.level from)) → BucketWithin t p.bucket
    go true i = level_places t w.level l y p i
    go false i = other_places t w.level l y from p i
