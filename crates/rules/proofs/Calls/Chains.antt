-- The chain of inlined callers, by the queries of its depths: what it writes, what it counts, and that on a sound table it answers as the
-- map does.
-- Assumes nothing.
use Prim.Native.Nat.{ℕ, zero, suc, ◌+◌, ◌-◌, ◌*◌, ◌^◌, ◌≤◌, ◌<◌}
use mathlib.Core.Path.{◌≡◌, refl, sym, ap, ◌∙◌}
use mathlib.Core.Bool.{Bool, true, false, cond}
use mathlib.Core.List.{List, map}
use mathlib.Core.Logic.{◌⊎◌, inl, inr, ⊎_elim}
use mathlib.Core.Option.{Option, none, some}
use native.Mathlib.Omega.{arith}
use native.Mathlib.Numerals.{add-one}
use lib.ListN.{length, length-map}
use borrow.Author.Tests.{eqb-true, eq-eqb, leb-true, le-leb, lt-ltb}
use Rattle.rules.specs.Choice.{from}
use Rattle.rules.specs.Words.{Table, header_of, flag_of, GoodHeader}
use Rattle.rules.specs.Places.{lookup}
use Rattle.rules.specs.Soundness.{SoundTable, PlainMap, HasMap}
use Rattle.rules.specs.Stores.{written}
use Rattle.rules.specs.Answers.{number_of, chain_means, breaks, misses}
use Rattle.rules.specs.Calls.{header_good, flag_clear, query_tests}
use Rattle.rules.specs.Results.{query_at}
use Rattle.rules.specs.Chains.{key_of, Walk, found, missing, walk, query_of, two_words, records_long, position_good, position_tests, chain_tests}
use Rattle.rules.specs.Chains.{chain_of, chain_result}
use Rattle.rules.specs.Demands.{QueryBy, count_of}
use Rattle.rules.specs.ChainSentences.{key_at, asked, ChainWritten, ChainWrites, total, FirstMissing, ChainCountBy, ChainCounts, count_told}
use Rattle.rules.specs.ChainSentences.{ChainLooksAtFew, ChainBy, ChainAnswers}
use Rattle.rules.specs.declared.Record.{Record}
use Rattle.rules.specs.declared.Lookup.{Lookup}
use Rattle.rules.specs.declared.Lookup.TheVariants.{Stands, Absent}
use Rattle.rules.specs.declared.Refusal.{Refusal}
use Rattle.rules.specs.declared.Refusal.TheVariants.{BadHeader, FlagSet, KeyAbsent, ShortRecords, BadPosition}
use Rattle.rules.specs.Answers.{Query}
use Rattle.rules.specs.Answers.{Chain}
use Rattle.std.specs.Prelude.{Ok, Err}
use Rattle.rules.proofs.Words.Headers.{good-header, header_passes}
use Rattle.rules.proofs.Calls.Meanings.{number_not_zero}
use Rattle.rules.proofs.Calls.Queries.{query_by_lookup, query_answers, probes_are_few}
use Rattle.rules.proofs.Calls.LentLists.{written_length, written-rest}
use Rattle.rules.proofs.Calls.ChainWalks.{walk_same, WalkBy, walk_by}

-- the tests 1, 3 and 15 pass
pub record Passed (t : Table) (d : ℕ) (l : List ℕ) : Type 0 where
  pub header : GoodHeader (length t) (header_of t)
  pub flag : flag_of t ≡ 0
  pub long : 2 * (d + 1) ≤ length l

module _ (t : Table) (address d : ℕ) (l : List ℕ) where
  asked_by_lookup : GoodHeader (length t) (header_of t) → flag_of t ≡ 0 → (e : ℕ) → query_of t (header_of t) address e ≡ asked t address e
  unfolding query_of key_of
  asked_by_lookup g f e =
      let k : key_of address e ≡ key_at address e = omega arith in
      ap (λ (i : ℕ). query_at t (lookup t (header_of t) i)) k ∙ sym (query_by_lookup t (key_at address e) g f)

  walked : GoodHeader (length t) (header_of t) → flag_of t ≡ 0 → walk (query_of t (header_of t) address) d ≡ walk (asked t address) d
  walked g f = walk_same _ _ (asked_by_lookup g f) d

  -- an answer is refused by a test, with count 0 and the lent words as they were; or the tests pass, and it is that of the walk
  abbrev Ways : Chain × List ℕ → Type 0
  Ways a =
      ((r : Refusal) × (r ≡ KeyAbsent → ⊥) × (a ≡ (breaks r 0, l))) ⊎ (Passed t d l × (a ≡ chain_of (walk (query_of t (header_of t) address) d) l))

  other : (r : Refusal) → (number_of r ≡ 5 → ⊥) → Ways (breaks r 0, l)
  other r n = inl (r, λ e. n (ap number_of e), refl)

  ways : Ways (chain_result t address d l)
  unfolding chain_result chain_tests position_tests query_tests header_good flag_clear records_long
  ways = go (header_good t) (flag_clear t) (position_good address d) (records_long d (length l)) refl refl refl
    where
      go : (a b c e : Bool) → header_good t ≡ a → flag_clear t ≡ b → records_long d (length l) ≡ e
          → Ways (cond a (cond b (cond c (cond e (chain_of (walk (query_of t (header_of t) address) d) l) (breaks ShortRecords 0, l)) (breaks BadPosition 0, l))
          (breaks FlagSet 0, l)) (breaks BadHeader 0, l))
      go true true true true p q r = inr (record { header = good-header _ _ p; flag = eqb-true _ _ q; long = leb-true _ _ r }, refl)
      go true true true false p q r = other ShortRecords (λ n. absurd (omega arith))
      go true true false e p q r = other BadPosition (λ n. absurd (omega arith))
      go true false c e p q r = other FlagSet (λ n. absurd (omega arith))
      go false b c e p q r = other BadHeader (λ n. absurd (omega arith))

  -- so what holds of both holds of the chain; the walk goes by the queries of its depths
  by_ways : (P : Chain × List ℕ → Type 0) → ((r : Refusal) → (r ≡ KeyAbsent → ⊥) → P (breaks r 0, l))
      → (Passed t d l → (w : Walk) → WalkBy (asked t address) d w → P (chain_of w l)) → P (chain_result t address d l)
  by_ways P refuse pass =
      ⊎_elim (λ p. rw p.2 (refuse p.0 p.1))
      (λ p. rw (p.1, walked p.0.header p.0.flag) (pass p.0 (walk (asked t address) d) (walk_by (asked t address) d))) ways

-- ---- what it writes

pub chain_writes : ChainWrites
unfolding written
chain_writes t address d l = by_ways t address d l Written (λ r n. inr (number_not_zero r, refl)) go
  where
    Written : Chain × List ℕ → Type 0
    Written a = (((chain_means a.0).number ≡ 0) × ChainWritten t address d l a.1) ⊎ (((chain_means a.0).number ≡ 0 → ⊥) × (a.1 ≡ l))

    go : Passed t d l → (w : Walk) → WalkBy (asked t address) d w → Written (chain_of w l)
    go p (missing n) k = inr (number_not_zero KeyAbsent, refl)
    go p (found rs n) k =
        let many : length (map two_words rs) ≡ suc d = length-map rs two_words ∙ k.many in
        let same : 2 * length (map two_words rs) ≡ 2 * d + 2 = omega (arith, many) in
        inl (
          refl,
          record {
            records = λ e i. k.records e i _;
            long = written_length (map two_words rs) l (omega (arith, same, p.long));
            rest = rw (← same) (written-rest (map two_words rs) l);
          },
        )

-- ---- what it counts

-- why a query has no record
abbrev why : Query → Refusal
why (Ok x) = KeyAbsent
why (Err x) = x.refusal

-- a query that the tests let pass is refused by 5 alone
absent-alone : (t : Table) (f : Lookup) (x : Refusal) (n : ℕ) → query_at t f ≡ misses x n → x ≡ KeyAbsent
absent-alone t (Stands y m) x n e = absurd (let z : ◌≡◌ {A = ℕ} 0 1 = cc in omega arith)
absent-alone t (Absent m) x n e = sym (ap why e)

pub chain_counts : ChainCounts
chain_counts t address d l = by_ways t address d l (λ (a : Chain × List ℕ). ChainCountBy t address d a.0) (λ r n. inr (n, refl)) go
  where
    go : Passed t d l → (w : Walk) → WalkBy (asked t address) d w → ChainCountBy t address d (chain_of w l).0
    go p (found rs n) k = rw add-one k.count
    go p (missing n) k =
        let q = query_by_lookup t (key_at address k.depth) p.header p.flag in
        let only = absent-alone t (lookup t (header_of t) (key_at address k.depth)) k.gap.0 k.gap.1 (sym q ∙ k.gap.2) in
        let first : FirstMissing t address d k.depth =
        record { within = k.within; gap = (k.gap.1, rw only at k.gap.2); above = k.above } in
        inl (refl, (k.depth, first, rw add-one k.count))

-- "never more than 4(d + 1) at rest or 6(d + 1) otherwise"
total-few : (f : ℕ → ℕ) (b : ℕ) → ((i : ℕ) → f i ≤ b) → (e n : ℕ) → total (map f (from e n)) ≤ b * n
total-few f b h e zero = omega arith
total-few f b h e (suc n) = let k : b * suc n ≡ b + b * n = omega arith in omega (arith, h e, total-few f b h (suc e) n, k)

module _ (t : Table) (address d : ℕ) (l : List ℕ) (b : ℕ) (few : (i : ℕ) → count_of (asked t address i) ≤ b) where
  -- of so many depths, at most b buckets each
  few_of : (c : Chain) → ChainCountBy t address d c → (n : ℕ) × (n ≤ d + 1) × (count_told c ≤ b * n)
  few_of (Ok n) k = (d + 1, omega arith, rw k (total-few _ b few 0 (d + 1)))
  few_of (Err x) (inl k) = (d - k.1.0 + 1, omega arith, rw k.1.2 (total-few _ b few k.1.0 (d - k.1.0 + 1)))
  few_of (Err x) (inr k) = (0, omega arith, rw k.1 (omega arith))

  few-counts : (n : ℕ) × (n ≤ d + 1) × (count_told (chain_result t address d l).0 ≤ b * n)
  few-counts = few_of (chain_result t address d l).0 (chain_counts t address d l)

pub chain_looks_at_few : ChainLooksAtFew
chain_looks_at_few t address d l = (
  λ rest.
      let k = few-counts t address d l 4 (λ i. let p = probes_are_few t (key_at address i) in omega (arith, p.0, p.1 rest)) in
      omega (arith, k.1, k.2),
  let k = few-counts t address d l 6 (λ i. let p = probes_are_few t (key_at address i) in omega (arith, p.0, p.2)) in
      omega (arith, k.1, k.2),
)

-- ---- on a sound table

-- what a query tells of the map
abbrev Says : Query → Option Record → Type 0
Says (Ok x) o = o ≡ some x.what
Says (Err x) o = o ≡ none

says : (o : Option Record) (q : Query) → QueryBy o q → Says q o
says (some v) q k = rw k.2
says none q k = rw k.1

module _ (t : Table) (m : PlainMap) (sound : SoundTable t) (map : HasMap t m) (address : ℕ) where
  depth_says : (e : ℕ) → Says (asked t address e) (m (key_at address e))
  depth_says e = says (m (key_at address e)) (asked t address e) (query_answers t m sound map (key_at address e))

  walk-answers : (d : ℕ) (l : List ℕ) (w : Walk) → WalkBy (asked t address) d w → ChainBy m address d l (chain_of w l)
  unfolding written
  walk-answers d l (found rs n) k = inl (refl, λ e i. let r = k.records e i _ in (r.0, rw r.1.2 at (depth_says e), r.2))
  walk-answers d l (missing n) k = inr (refl, refl, (k.depth, k.within, rw k.gap.2 at (depth_says k.depth)))

-- the tests pass
passes : (t : Table) (address d : ℕ) (l : List ℕ) → GoodHeader (length t) (header_of t) → flag_of t ≡ 0 → address < 2 ^ 56 → d ≤ 255
    → 2 * (d + 1) ≤ length l
    → chain_result t address d l ≡ chain_of (walk (asked t address) d) l
unfolding chain_result chain_tests position_tests query_tests header_good flag_clear position_good records_long
passes t address d l g f a b c =
    rw (header_passes (length t) (header_of t) g, eq-eqb _ _ f, lt-ltb _ _ a, le-leb _ _ b, le-leb _ _ c, walked t address d l g f)

pub chain_answers : ChainAnswers
chain_answers t m sound map address d l a b c =
    rw (passes t address d l sound.orderly.header sound.orderly.flag a b c)
    (walk-answers t m sound map address d l (walk (asked t address) d) (walk_by (asked t address) d))
