-- The query: it answers by the lookup, as the map does on a sound table, and its count is the position, in the list of distinct
-- probed buckets, of the bucket where it stopped, or that list's length.
-- Assumes nothing.
use Prim.Native.Nat.{ℕ, ◌≤◌}
use mathlib.Core.Path.{◌≡◌, refl, ap, ◌∙◌}
use mathlib.Core.Bool.{Bool, true, false, cond}
use mathlib.Core.List.Memᴰ
use mathlib.Core.List.Memᴰ.{head as here}
use mathlib.Core.List.{List, [], ◌∷◌}
use mathlib.Core.Logic.{◌⊎◌, inl, inr}
use mathlib.Core.Option.{Option, none, some}
use native.Mathlib.Omega.{arith}
use lib.ListN.{length, length-append}
use borrow.Author.Tests.{eqb-true, eq-eqb}
use Rattle.rules.specs.Words.{Table, header_of, GoodHeader, flag_of, at_rest, spot_of}
use Rattle.rules.specs.Places.{hashes_of, places_of, lookup}
use Rattle.rules.specs.Answers.{query_means, misses}
use Rattle.rules.specs.Calls.{header_good, flag_clear, checked, query_tests, refused, query_in, outcome}
use Rattle.rules.specs.Results.{query_at, query_result}
use Rattle.rules.specs.Demands.{CountBy, QueryCounts, QueryAs, QueryIsACall, QueryBy, QueryAnswers, count_of, ProbesAreFew, ProbesAreDistinct}
use Rattle.rules.specs.declared.Record.{Record}
use Rattle.rules.specs.declared.Lookup.{Lookup}
use Rattle.rules.specs.declared.Lookup.TheVariants.{Stands, Absent}
use Rattle.rules.specs.declared.Refusal.{Refusal}
use Rattle.rules.specs.declared.Refusal.TheVariants.{BadHeader, FlagSet}
use Rattle.rules.specs.Answers.{Query}
use Rattle.rules.proofs.Basics.Lists.{never, ascending-after}
use Rattle.rules.proofs.Words.Headers.{good-header, header_passes}
use Rattle.rules.proofs.Places.Few.{four_at_rest, six_at_most}
use Rattle.rules.proofs.Places.PlacesInUse.{Elsewhere, places_apart}
use Rattle.rules.proofs.Places.Lookups.{lookup-stands, lookup_absent, lookup-known, lookup_unknown}

-- ---- tests 1 and 3 of one table

pub record Passes (s : Table) : Type 0 where
  pub header : GoodHeader (length s) (header_of s)
  pub flag : flag_of s ≡ 0

abbrev pub Fails : Table → Refusal → Type 0
Fails s r =
    ((GoodHeader (length s) (header_of s) → ⊥) × (r ≡ BadHeader))
    ⊎ (GoodHeader (length s) (header_of s) × (flag_of s ≡ 0 → ⊥) × (r ≡ FlagSet))

module _ (s : Table) {A : Type 0} (P : A → Type 0) (refuse : Refusal → A) (a : A) where
  -- what holds of a refusal by them, and of what comes behind them, holds of what they guard
  pub through_tests : ((r : Refusal) → Fails s r → P (refuse r)) → (Passes s → P a) → P (checked refuse (query_tests s) a)
  unfolding query_tests header_good flag_clear
  through_tests shut past = go (header_good s) (flag_clear s) refl refl
    where
      go : (b c : Bool) → header_good s ≡ b → flag_clear s ≡ c → P (cond b (cond c a (refuse FlagSet)) (refuse BadHeader))
      go true true p q = past (record { header = good-header _ _ p; flag = eqb-true _ _ q })
      go true false p q = shut FlagSet (inr (good-header _ _ p, (λ e. never (eq-eqb _ _ e) q), refl))
      go false c p q = shut BadHeader (inl ((λ g. never (header_passes _ _ g) p), refl))

-- ---- the query

module _ (t : Table) (key : ℕ) where
  -- a query of a table with a good header and no flag answers by the lookup
  pub query_by_lookup : GoodHeader (length t) (header_of t) → flag_of t ≡ 0 → query_result t key ≡ query_at t (lookup t (header_of t) key)
  unfolding query_result query_tests header_good flag_clear
  query_by_lookup g e = rw (header_passes (length t) (header_of t) g, eq-eqb _ _ e)

  counted : (o : Lookup) → lookup t (header_of t) key ≡ o → CountBy t key (query_at t o)
  counted (Stands x n) e =
      let s = lookup-stands t key x n e in
      record { slot = x; stop = s.0; position = s.1; value = refl; spot = refl }
  counted (Absent n) e = let r = lookup_absent t (header_of t) key n e in (refl, r.0, r.1)

pub query_counts : QueryCounts
query_counts t key g e = rw (query_by_lookup t key g e) (counted t key (lookup t (header_of t) key) refl)

pub query_answers : QueryAnswers
query_answers t m sound map key = go (m key) refl
  where
    go : (o : Option Record) → m key ≡ o → QueryBy o (query_result t key)
    go (some r) e =
        let f = lookup-known t m sound map key r e in
        (spot_of f.slot, f.count, query_by_lookup t key sound.orderly.header sound.orderly.flag ∙ rw (f.answer, f.value))
    go none e =
        let f = lookup_unknown t m sound map key e in
        (f.0, query_by_lookup t key sound.orderly.header sound.orderly.flag ∙ ap (query_at t) f.1)

-- the tests refuse alike, and where they pass both go by the lookup
query_as : (t : Table) (o : Lookup) (ts : List (Bool × Refusal))
    → QueryAs (checked refused ts (query_in o)) (query_means (checked (λ (r : Refusal). misses r 0) ts (query_at t o)))
query_as t (Stands x n) [] = refl
query_as t (Absent n) [] = (n, refl, inl refl)
query_as t o (x ∷ ts) = go x.0 (query_as t o ts)
  where
    go : (b : Bool) → QueryAs (checked refused ts (query_in o)) (query_means (checked (λ (r : Refusal). misses r 0) ts (query_at t o)))
        → QueryAs (cond b (checked refused ts (query_in o)) (refused x.1))
        (query_means (cond b (checked (λ (r : Refusal). misses r 0) ts (query_at t o)) (misses x.1 0)))
    go true k = k
    go false k = (0, refl, inr refl)

pub query_is_a_call : QueryIsACall
unfolding outcome query_result
query_is_a_call t n key = query_as t (lookup t (header_of t) key) (query_tests t)

pub probes_are_distinct : ProbesAreDistinct
probes_are_distinct t key g before between behind p q e =
    ascending-after Elsewhere before p _ (rw e at (places_apart (header_of t).c (header_of t) g.state key)) q (Memᴰ.append_right between (here refl))

-- ---- how many buckets

-- the count is a position in the list of probed buckets, or its length; 0 where the query is refused
counts-within : (t : Table) (key : ℕ) (o : Lookup) → lookup t (header_of t) key ≡ o → count_of (query_at t o) ≤ length (places_of (header_of t) key)
counts-within t key (Stands x n) e =
    let s = lookup-stands t key x n e in
    let whole = ap length s.0.order ∙ length-append s.0.before (s.0.place ∷ s.0.behind) in
    omega (arith, s.1, whole)
counts-within t key (Absent n) e = omega (arith, (lookup_absent t (header_of t) key n e).0)

checked-count : (q : Query) (m : ℕ) (ts : List (Bool × Refusal)) → count_of q ≤ m → count_of (checked (λ (r : Refusal). misses r 0) ts q) ≤ m
checked-count q m [] h = h
checked-count q m (x ∷ ts) h = go x.0 (checked-count q m ts h)
  where
    go : (b : Bool) → count_of (checked (λ (r : Refusal). misses r 0) ts q) ≤ m
        → count_of (cond b (checked (λ (r : Refusal). misses r 0) ts q) (misses x.1 0)) ≤ m
    go true k = k
    go false k = omega arith

pub probes_are_few : ProbesAreFew
unfolding places_of at_rest query_result
probes_are_few t key =
    let x = hashes_of (header_of t) key in (
      checked-count _ _ (query_tests t) (counts-within t key (lookup t (header_of t) key) refl),
      λ e. four_at_rest x (header_of t).state (eq-eqb (header_of t).state.phase 0 e),
      six_at_most x (header_of t).state,
    )
