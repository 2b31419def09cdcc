-- The rules' answer to a query keeps query's promise, and each way through the code gives that answer.
-- Assumes nothing.
use Prim.Native.Nat.{ℕ, ◌≤◌}
use mathlib.Core.Path.{◌≡◌, refl, sym, ap, ◌∙◌}
use mathlib.Core.Bool.{Bool, true, false, cond}
use native.Mathlib.Nat.{zero-add}
use native.Mathlib.Omega.{arith}
use lib.ListN.{length}
use Rattle.rules.specs.Words.{Table, header_of, spot_of, record_in}
use Rattle.rules.specs.Places.{hashes_of, places_of, hit_in, lookup}
use Rattle.rules.specs.Calls.{header_good, flag_clear, query_tests}
use Rattle.rules.specs.Answers.{query_means, LookupTells, knows, misses}
use Rattle.rules.specs.Results.{query_at, query_result}
use Rattle.rules.specs.declared.Header.{Header}
use Rattle.rules.specs.declared.Slot.{Slot}
use Rattle.rules.specs.declared.Record.{Record}
use Rattle.rules.specs.declared.Spot.{Spot}
use Rattle.rules.specs.declared.Lookup.{Lookup}
use Rattle.rules.specs.declared.Lookup.TheVariants.{Stands, Absent}
use Rattle.rules.specs.declared.Refusal.{Refusal}
use Rattle.rules.specs.declared.Refusal.TheVariants.{BadHeader, FlagSet, KeyAbsent}
use Rattle.rules.specs.Answers.{Query}
use Rattle.std.specs.Prelude.{Ok, Err}
use Rattle.rules.proofs.Places.Few.{four_at_rest, six_at_most}
use Rattle.rules.proofs.Calls.Meanings.{query-one, lookup-told_by}
use Rattle.reading.specs.Gates.{gate_of}
use Rattle.reading.specs.Gates.{Gate}
use Rattle.reading.proofs.Gated.{gate_open, gate_shut}
use Rattle.querying.specs.Promises.{position, probe_count, count_of, Queried}
use Rattle.querying.proofs.Standings.{looked, seek-position, position-few}

-- ---- the count

module _ (t : Table) (key : ℕ) where
  told-count : (f : Lookup) → count_of (query_means (query_at t f)) ≡ looked f
  told-count (Stands x n) = refl
  told-count (Absent n) = refl

  -- the bucket's position, of a table that passes the tests
  at_position : count_of (query_means (query_at t (lookup t (header_of t) key))) ≡ position (hit_in t (header_of t) key) (places_of (header_of t) key)
  unfolding lookup
  at_position = told-count (lookup t (header_of t) key) ∙ seek-position (hit_in t (header_of t) key) (places_of (header_of t) key) 0 ∙ zero-add _

  counted : count_of (query_means (query_result t key)) ≡ probe_count t key
  unfolding query_result query_tests probe_count
  counted = go (header_good t) (flag_clear t)
    where
      go : (b d : Bool) → count_of
          (query_means (cond b (cond d (query_at t (lookup t (header_of t) key)) (misses FlagSet 0)) (misses BadHeader 0))) ≡ cond b
          (cond d (position (hit_in t (header_of t) key) (places_of (header_of t) key)) 0) 0
      go true true = at_position
      go true false = refl
      go false d = refl

  -- it is at most what the list of distinct probed buckets has
  count-few : (n : ℕ) → length (places_of (header_of t) key) ≤ n → probe_count t key ≤ n
  unfolding probe_count
  count-few n l = go (header_good t) (flag_clear t)
    where
      go : (b d : Bool) → cond b (cond d (position (hit_in t (header_of t) key) (places_of (header_of t) key)) 0) 0 ≤ n
      go true true = omega (arith, l, position-few (hit_in t (header_of t) key) (places_of (header_of t) key))
      go true false = omega arith
      go false d = omega arith

  pub queried : {r : Query} → r ≡ query_result t key → Queried t key r t
  unfolding places_of
  queried e =
      rw e
      (record {
        answer = refl;
        count = counted;
        few = rw counted (count-few 6 (six_at_most (hashes_of (header_of t) key) (header_of t).state));
        table = refl;
        rest = λ a. rw counted (count-few 4 (four_at_rest (hashes_of (header_of t) key) (header_of t).state a));
      })

  -- ---- the ways through the code

  module _ {g : Gate} (e : g ≡ gate_of t (query_tests t)) where
    pub refused : {r : Refusal} → g ≡ Err r → Queried t key (misses r 0) t
    unfolding query_result
    refused q = queried (gate_shut t (query_tests t) e (λ (r : Refusal). misses r 0) _ q)

    pub through : {h : Header} → g ≡ Ok h → h ≡ header_of t → {r : Query} → r ≡ query_at t (lookup t h key) → Queried t key r t
    unfolding query_result
    through q same told =
        queried
        (told
        ∙ ap (query_at t) (ap (λ (z : Header). lookup t z key) same)
        ∙ gate_open t (query_tests t) e (λ (r : Refusal). misses r 0) _ q)

-- ---- what a lookup tells

pub told-alike : (t : Table) {f g : Lookup} → LookupTells f g → query_at t f ≡ query_at t g
told-alike t l = ap (query_at t) (lookup-told_by l)

module _ (t : Table) {f : Lookup} where
  pub told-known : {x : Slot} {n : ℕ} {r : Record} {s : Spot} → f ≡ Stands x n → r ≡ record_in t x → s ≡ spot_of x → knows r s n ≡ query_at t f
  told-known p w v = rw (p, w, v)

  pub told-absent : {n : ℕ} → f ≡ Absent n → misses KeyAbsent n ≡ query_at t f
  told-absent p = rw p

-- no second answer and no second table keeps the promise
pub queried-one : (t : Table) (key : ℕ) (r s : Query) (u v : Table) → Queried t key r u → Queried t key s v → (r ≡ s) × (u ≡ v)
queried-one t key r s u v a b = (query-one r s (a.answer ∙ sym b.answer), a.table ∙ sym b.table)
