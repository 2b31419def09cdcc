-- A walk that writes its records on the way back leaves what the rules' walk finds, and the chain is that walk behind its tests.
-- Assumes nothing.
use Prim.Native.Nat.{ℕ, zero, suc, ◌+◌, ◌-◌, ◌*◌, ◌/◌, ◌%◌, ◌≤◌}
use mathlib.Core.Path.{◌≡◌, refl, ap, ◌∙◌}
use mathlib.Core.Bool.{Bool, true, false}
use mathlib.Core.List.{List, [], map}
use native.Mathlib.Omega.{arith}
use native.Mathlib.Numerals.{unary_clauses}
use Rattle.rules.specs.Words.{Table, header_of, spot_of, record_in}
use Rattle.rules.specs.Places.{lookup}
use Rattle.rules.specs.Answers.{LookupTells, knows, misses}
use Rattle.rules.specs.Chains.{key_of, Walk, found, missing, before, walk, query_of, two_words}
use Rattle.rules.specs.declared.Header.{Header}
use Rattle.rules.specs.declared.Slot.{Slot}
use Rattle.rules.specs.declared.Record.{Record}
use Rattle.rules.specs.declared.Spot.{Spot}
use Rattle.rules.specs.declared.Lookup.{Lookup}
use Rattle.rules.specs.declared.Lookup.TheVariants.{Stands, Absent}
use Rattle.rules.specs.declared.Refusal.TheVariants.{KeyAbsent}
use Rattle.rules.specs.Answers.{Query}
use Rattle.rules.proofs.Calls.Meanings.{lookup-told_by}
use Rattle.querying.proofs.Standings.{looked, lookup-few}
use Rattle.listing.specs.Listing.{listed_at}
use Rattle.listing.proofs.Runs.{pair_before}
use Rattle.chaining.specs.Walks.{put_at, Walked}

-- ---- one depth

module _ (asks : ℕ → Query) (d : ℕ) where
  pub last_depth : d ≡ 0 → walk asks d ≡ before (asks d) (found [] 0)
  unfolding walk
  last_depth e = rw e

  pub next_depth : (d ≡ 0 → ⊥) → walk asks d ≡ before (asks d) (walk asks (d - 1))
  unfolding walk
  next_depth = go d
    where
      go : (n : ℕ) → (n ≡ 0 → ⊥) → walk asks n ≡ before (asks n) (walk asks (n - 1))
      go zero h = absurd (h refl)
      go (suc n) h = simp unary_clauses

-- nothing is written below the last depth
pub nothing_below : (l : List ℕ) (i n : ℕ) → Walked (found [] 0) i l n true l n
unfolding listed_at
nothing_below l i n = record { answer = refl; count = omega arith; records = refl }

-- a depth with the record r, in n buckets, before the smaller ones
module _ {q : Query} {r : Record} {s : Spot} {n : ℕ} (known : q ≡ knows r s n) {l mid last : List ℕ} {i start k : ℕ} {b c : Bool} (a : c ≡ b)
    (e : last ≡ put_at b i r mid) where
  pub put_on : (w : Walk) → Walked w (i + 1) l (start + n) b mid k → Walked (before q w) i l start c last k
  put_on (found rs m) v =
      let f = rw (v.answer, v.records) at e in
      rw known (record { answer = a ∙ v.answer; count = omega (arith, v.count); records = f ∙ pair_before l i (two_words r) (map two_words rs) })
  put_on (missing m) v =
      let f = rw (v.answer, v.records) at e in
      rw known (record { answer = a ∙ v.answer; count = omega (arith, v.count); records = f })

-- a depth without one
pub gap : (asks : ℕ → Query) (d : ℕ) (l : List ℕ) (i start : ℕ) {n : ℕ} → asks d ≡ misses KeyAbsent n → Walked (walk asks d) i l start false l (start + n)
unfolding walk
gap asks zero l i start k = rw k (record { answer = refl; count = refl; records = refl })
gap asks (suc d) l i start k = rw k (record { answer = refl; count = refl; records = refl })

-- ---- the query of a depth

-- the key of an address at a depth
key_of_lem : (key : ℕ) → key_of (key / 256) (key % 256) ≡ key
unfolding key_of
key_of_lem key = omega arith

module _ (t : Table) (key : ℕ) {h : Header} (same : h ≡ header_of t) {f : Lookup} (told : LookupTells f (lookup t h key)) where
  looked_up : f ≡ lookup t (header_of t) key
  looked_up = lookup-told_by told ∙ ap (λ (z : Header). lookup t z key) same

  pub stands_there : {x : Slot} {r : Record} {n : ℕ} → f ≡ Stands x n → r ≡ record_in t x
      → query_of t (header_of t) (key / 256) (key % 256) ≡ knows r (spot_of x) n
  unfolding query_of
  stands_there k w = rw (key_of_lem key, ← looked_up, k, w)

  pub not_there : {n : ℕ} → f ≡ Absent n → query_of t (header_of t) (key / 256) (key % 256) ≡ misses KeyAbsent n
  unfolding query_of
  not_there k = rw (key_of_lem key, ← looked_up, k)

  pub few : looked f ≤ 6
  few = rw looked_up (lookup-few t (header_of t) key)

-- the key before is that of the next smaller depth
pub smaller : (t : Table) (key : ℕ) → (key % 256 ≡ 0 → ⊥) → {i n k : ℕ} {l m : List ℕ} {b : Bool}
    → Walked (walk (query_of t (header_of t) ((key - 1) / 256)) ((key - 1) % 256)) i l n b m k
    → Walked (walk (query_of t (header_of t) (key / 256)) (key % 256 - 1)) i l n b m k
smaller t key h v =
    let a : (key - 1) / 256 ≡ key / 256 = omega arith in
    let d : (key - 1) % 256 ≡ key % 256 - 1 = omega arith in
    rw (a, d) at v

-- and the key of an address at a depth has these two
pub of_position : (t : Table) (address depth : ℕ) → depth ≤ 255 → {i n k : ℕ} {l m : List ℕ} {b : Bool}
    → Walked (walk (query_of t (header_of t) ((address * 256 + depth) / 256)) ((address * 256 + depth) % 256)) i l n b m k
    → Walked (walk (query_of t (header_of t) address) depth) i l n b m k
of_position t address depth h v =
    let a : (address * 256 + depth) / 256 ≡ address = omega arith in
    let d : (address * 256 + depth) % 256 ≡ depth = omega arith in
    rw (a, d) at v
