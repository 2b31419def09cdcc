-- By turns the first and the second place of each level, the second left out where it is the first again: that is the list of
-- distinct probed buckets.
-- Assumes nothing.
use Prim.Native.Nat.{ℕ, zero, suc, ◌+◌, ◌-◌, ◌*◌, ◌/◌, ◌%◌, ◌≤◌, ◌<◌}
use mathlib.Core.Path.{◌≡◌, refl, ap, ◌∙◌}
use mathlib.Core.Bool.{Bool, true, false, not, cond}
use mathlib.Core.List.{List, [], ◌∷◌, ◌++◌, flat_map}
use mathlib.Core.Option.{Option, none, some}
use native.Mathlib.Nat.{mod-lt}
use native.Mathlib.Omega.{arith}
use lib.ListN.{length, get_or, drop, drop_of_length-le}
use lib.Pow.{pow_pos}
use lib.Dec.{eqb}
use borrow.Author.Tests.{eq-eqb, ne_eqb}
use Rattle.rules.specs.Words.{Table, GoodHeader, top_of, levels_in_use, place_at}
use Rattle.rules.specs.Places.{first_place, second_place, same_place, places_in, probes, hit_in, stands_or, seek}
use Rattle.rules.specs.declared.State.{State}
use Rattle.rules.specs.declared.Header.{Header}
use Rattle.rules.specs.declared.Level.{Level}
use Rattle.rules.specs.declared.Hashes.{Hashes}
use Rattle.rules.specs.declared.Place.{Place}
use Rattle.rules.specs.declared.Slot.{Slot}
use Rattle.rules.specs.declared.Lookup.{Lookup}
use Rattle.rules.specs.declared.Lookup.TheVariants.{Stands, Absent}
use Rattle.rules.proofs.Basics.Walks.{get_d_in}
use Rattle.rules.proofs.Words.Headers.{bucket-fits}
use Rattle.rules.proofs.Words.Levels.{exponent-fits}
use Rattle.reading.specs.Levels.{nth_level, place_in}
use Rattle.querying.specs.Turns.{place_of_turn, nth_place, fresh}

-- a place, and whether it is looked at
abbrev Turn : Type 0
Turn = Place × Bool

module _ (hit : Place → Option Slot) where
  abbrev seek_turns : ℕ → List Turn → Lookup
  seek_turns n [] = Absent n
  seek_turns n (p ∷ ps) = cond p.1 (stands_or (hit p.0) (n + 1) (seek_turns (n + 1) ps)) (seek_turns n ps)

module _ (x : Hashes) where
  turns_in : Level → List Turn
  turns_in l = (first_place x l, true) ∷ (second_place x l, not (same_place (first_place x l) (second_place x l))) ∷ []

  seek_levels : (hit : Place → Option Slot) (ls : List Level) (n : ℕ) → seek hit n (flat_map (places_in x) ls) ≡ seek_turns hit n (flat_map turns_in ls)
  unfolding flat_map turns_in places_in
  seek_levels hit [] n = refl
  seek_levels hit (l ∷ ls) n = go (same_place (first_place x l) (second_place x l)) (seek_levels hit ls)
    where
      go : (b : Bool) → ((m : ℕ) → seek hit m (flat_map (places_in x) ls) ≡ seek_turns hit m (flat_map turns_in ls))
          → seek hit n (first_place x l ∷ (cond b [] (second_place x l ∷ []) ++ flat_map (places_in x) ls)) ≡ seek_turns hit n
          ((first_place x l, true) ∷ (second_place x l, not b) ∷ flat_map turns_in ls)
      go true k = ap (stands_or (hit (first_place x l)) (n + 1)) (k (n + 1))
      go false k = ap (λ z. stands_or (hit (first_place x l)) (n + 1) (stands_or (hit (second_place x l)) (n + 1 + 1) z)) (k (n + 1 + 1))

  module _ (d : Level) where
    -- two turns on is a level on
    turn_on : (l : Level) (ls : List Level) (i : ℕ) → place_of_turn d (l ∷ ls) x (suc (suc i)) ≡ place_of_turn d ls x i
    unfolding place_of_turn
    turn_on l ls i =
        let e : suc (suc i) / 2 ≡ suc (i / 2) = omega arith in
        let f : suc (suc i) % 2 ≡ i % 2 = omega arith in
        rw (e, f)

    -- the place before, in the levels that are left
    last_on : (l : Level) (ls : List Level) (i last : ℕ) → last ≡ (place_of_turn d (l ∷ ls) x (suc i)).bucket → (i ≡ 0 → ⊥)
        → last ≡ (place_of_turn d ls x (i - 1)).bucket
    last_on l ls zero last e n = absurd (n refl)
    last_on l ls (suc i) last e n = let k : suc i - 1 ≡ i = omega arith in rw k (e ∙ ap (λ (p : Place). p.bucket) (turn_on l ls i))

    -- turn i: place i, looked at where it is fresh
    turn_next : (ls : List Level) (i last : ℕ) → i < 2 * length ls → ((i ≡ 0 → ⊥) → last ≡ (place_of_turn d ls x (i - 1)).bucket)
        → drop i (flat_map turns_in ls) ≡ (place_of_turn d ls x i, fresh i (place_of_turn d ls x i).bucket last) ∷ drop (i + 1) (flat_map turns_in ls)
    unfolding turns_in flat_map place_of_turn fresh first_place second_place same_place place_at
    turn_next [] i last h k = absurd (omega arith)
    turn_next (l ∷ ls) zero last h k = refl
    turn_next (l ∷ ls) (suc zero) last h k = rw (k (λ e. omega arith))
    turn_next (l ∷ ls) (suc (suc i)) last h k =
        let f : suc (suc i) % 2 ≡ i % 2 = omega arith in
        let g : suc (suc i) - 1 ≡ suc i = omega arith in
        let e : suc (suc i) / 2 ≡ suc (i / 2) = omega arith in
        let n : suc (suc i) + 1 ≡ suc (suc (i + 1)) = omega arith in
        rw (e, f, n) (turn_next ls i last (omega arith) (last_on l ls i last (rw g at (k (λ e. omega arith)))))

  turns_length : (ls : List Level) → length (flat_map turns_in ls) ≡ 2 * length ls
  unfolding turns_in flat_map
  turns_length [] = refl
  turns_length (l ∷ ls) = omega (arith, turns_length ls)

  turns-end : (ls : List Level) (i : ℕ) → 2 * length ls ≤ i → drop i (flat_map turns_in ls) ≡ []
  turns-end ls i h = let k : length (flat_map turns_in ls) ≤ i = rw (turns_length ls) h in drop_of_length-le (flat_map turns_in ls) k

-- ---- the search from turn i on, after n buckets

module _ (t : Table) (h : Header) (key : ℕ) (s : State) (x : Hashes) where
  pub in_turns : ℕ → ℕ → Lookup
  in_turns i n = seek_turns (hit_in t h key) n (drop i (flat_map (turns_in x) (levels_in_use s)))

  pub turns-all : seek (hit_in t h key) 0 (probes s x) ≡ in_turns 0 0
  unfolding in_turns probes
  turns-all = seek_levels x (hit_in t h key) (levels_in_use s) 0

  pub turns-over : (i n : ℕ) → 2 * length (levels_in_use s) ≤ i → in_turns i n ≡ Absent n
  unfolding in_turns
  turns-over i n l = rw (turns-end x (levels_in_use s) i l)

  module _ (i n last : ℕ) (l : i < 2 * length (levels_in_use s)) (k : (i ≡ 0 → ⊥)
      → last ≡ (nth_place s x (i - 1)).bucket) {p : Place} (q : p ≡ nth_place s x i) where
    turn : drop i (flat_map (turns_in x) (levels_in_use s)) ≡ (p, fresh i p.bucket last) ∷ drop (i + 1) (flat_map (turns_in x) (levels_in_use s))
    unfolding nth_place
    turn = rw q (turn_next x (top_of s) (levels_in_use s) i last l k)

    pub turn_skip : fresh i p.bucket last ≡ false → in_turns i n ≡ in_turns (i + 1) n
    unfolding in_turns
    turn_skip e = rw (turn, e)

    pub turn_pass : fresh i p.bucket last ≡ true → hit_in t h key p ≡ none → in_turns i n ≡ in_turns (i + 1) (n + 1)
    unfolding in_turns
    turn_pass e f = rw (turn, e, f)

    pub turn_hit : {y : Slot} → fresh i p.bucket last ≡ true → hit_in t h key p ≡ some y → in_turns i n ≡ Stands y (n + 1)
    unfolding in_turns
    turn_hit e f = rw (turn, e, f)

-- the place of a turn, from its level
module _ (s : State) (x : Hashes) (i : ℕ) {p : Place} where
  pub first_turn : i % 2 ≡ 0 → p ≡ place_in (nth_level s (i / 2)) x.first → p ≡ nth_place s x i
  unfolding nth_place place_of_turn
  first_turn e q = rw (eq-eqb _ _ e) q

  pub second_turn : (i % 2 ≡ 0 → ⊥) → p ≡ place_in (nth_level s (i / 2)) x.second → p ≡ nth_place s x i
  unfolding nth_place place_of_turn
  second_turn e q = rw (ne_eqb _ _ e) q

-- the place of a turn is the one before the next
pub last-next : (s : State) (x : Hashes) (i : ℕ) {p : Place} → p ≡ nth_place s x i → (i + 1 ≡ 0 → ⊥)
    → p.bucket ≡ (nth_place s x (i + 1 - 1)).bucket
last-next s x i q e = let k : i + 1 - 1 ≡ i = omega arith in rw (k, q)

-- a place of a turn lies in the table
pub turn_within : (size : ℕ) (h : Header) → GoodHeader size h → (x : Hashes) (i : ℕ) → i < 2 * length (levels_in_use h.state)
    → 9 + 13 * (nth_place h.state x i).bucket + 13 ≤ size
unfolding nth_place place_of_turn place_at
turn_within size h g x i l =
    let ls = levels_in_use h.state in
    let m = get_or ls (i / 2) (top_of h.state) in
    let fits = exponent-fits h.c h.state g.state m (get_d_in (top_of h.state) ls (i / 2) (omega arith)) in
    let low = mod-lt (cond (eqb (i % 2) 0) x.first x.second) (pow_pos m.exponent) in
    bucket-fits size h g m.exponent _ fits (omega (arith, low))
