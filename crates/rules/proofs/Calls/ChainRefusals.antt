-- The chain refuses by the first of its refusals, in document 02's order, whose reason holds, and is accepted where none does.
-- Assumes nothing.
use Prim.Native.Nat.{ℕ, ◌+◌, ◌*◌, ◌^◌, ◌≤◌, ◌<◌}
use mathlib.Core.Path.{◌≡◌, refl}
use mathlib.Core.Bool.{true, false, cond}
use mathlib.Core.List.{List, [], ◌∷◌}
use mathlib.Core.Logic.{◌⊎◌, inl, inr}
use native.Mathlib.Decide.{dec_le}
use native.Mathlib.Omega.{arith}
use lib.ListN.{length}
use borrow.Author.Tests.{leb-true, leb-false}
use Rattle.rules.specs.Words.{Table, header_of}
use Rattle.rules.specs.Places.{lookup}
use Rattle.rules.specs.Calls.{query_tests, Outcome, refused}
use Rattle.rules.specs.Results.{query_at}
use Rattle.rules.specs.Chains.{key_of, position_good, records_long, position_tests, chain_tests, Walk, found, missing, walk, query_of, chain_of, chain_result}
use Rattle.rules.specs.Demands.{Held}
use Rattle.rules.specs.ChainSentences.{key_at, chain_reasons, chain_outcome, ChainRefusals}
use Rattle.rules.specs.declared.Lookup.{Lookup}
use Rattle.rules.specs.declared.Lookup.TheVariants.{Stands, Absent}
use Rattle.rules.specs.declared.Refusal.{Refusal}
use Rattle.rules.specs.declared.Refusal.TheVariants.{KeyAbsent, ShortRecords, BadPosition}
use Rattle.rules.specs.Answers.{Query, breaks}
use Rattle.rules.specs.Answers.{Chain}
use Rattle.std.specs.Prelude.{Ok, Err}
use Rattle.rules.proofs.Basics.Lists.{never}
use Rattle.rules.proofs.Basics.Tests.{Tells, tells_lt, tells_le, tells_and}
use Rattle.rules.proofs.Calls.Checked.{checked_as}
use Rattle.rules.proofs.Calls.Refusals.{ByFirst, by_test, good-header_or, clear_flag_or, held, not_held}
use Rattle.rules.proofs.Calls.ChainWalks.{WalkBy, walk_by}

module _ (t : Table) (address d : ℕ) (l : List ℕ) where
  -- a query finds a key exactly where it stands in a probed bucket
  abbrev Finds : ℕ → Query → Type 0
  Finds key (Ok x) = Held t key
  Finds key (Err x) = Held t key → ⊥

  lookup-finds : (key : ℕ) (f : Lookup) → lookup t (header_of t) key ≡ f → Finds key (query_at t f)
  lookup-finds key (Stands x n) e = held t key x n e
  lookup-finds key (Absent n) e = not_held t key n e

  finds : (e : ℕ) → Finds (key_at address e) (query_of t (header_of t) address e)
  unfolding query_of key_of
  finds e =
      let k : key_of address e ≡ key_at address e = omega arith in
      rw k (lookup-finds (key_at address e) (lookup t (header_of t) (key_at address e)) refl)

  walk-refuses : (w : Walk) → WalkBy (query_of t (header_of t) address) d w
      → ByFirst ((((e : ℕ) × (e ≤ d) × (Held t (key_at address e) → ⊥)), KeyAbsent) ∷ []) (chain_outcome (chain_of w l).0)
  unfolding ByFirst
  walk-refuses (found rs n) k = inr (λ m. m.2 (rw (k.records m.0 m.1 []).1.2 at (finds m.0)), ([], refl))
  walk-refuses (missing n) k = inl ((k.depth, k.within, rw k.gap.2 at (finds k.depth)), refl)

  -- "an address of 2^56 or more, or a depth above 255"
  position_or : (fs : List (Type 0 × Refusal)) (o : Outcome) → ByFirst fs o
      → ByFirst ((((2 ^ 56 ≤ address) ⊎ (255 < d)), BadPosition) ∷ fs) (cond (position_good address d) o (refused BadPosition))
  unfolding position_good
  position_or fs o = by_test (position_good address d) BadPosition fs o ((2 ^ 56 ≤ address) ⊎ (255 < d)) pass fail
    where
      both : Tells (position_good address d) ((address < 2 ^ 56) × (d ≤ 255))
      both = tells_and _ _ (tells_lt _ _) (tells_le _ _)

      pass : position_good address d ≡ true → (2 ^ 56 ≤ address) ⊎ (255 < d) → ⊥
      pass e (inl h) = absurd (omega (arith, (both.0 e).0))
      pass e (inr h) = absurd (omega (arith, (both.0 e).1))

      fail : position_good address d ≡ false → (2 ^ 56 ≤ address) ⊎ (255 < d)
      fail e = go (dec_le (2 ^ 56) address) (dec_le d 255)
        where
          go : Dec (2 ^ 56 ≤ address) → Dec (d ≤ 255) → (2 ^ 56 ≤ address) ⊎ (255 < d)
          go (yes a) b = inl a
          go (no a) (no b) = inr (omega arith)
          go (no a) (yes b) = never (both.1 (omega arith, b)) e

  records_or : (fs : List (Type 0 × Refusal)) (o : Outcome) → ByFirst fs o
      → ByFirst ((length l < 2 * d + 2, ShortRecords) ∷ fs) (cond (records_long d (length l)) o (refused ShortRecords))
  unfolding records_long
  records_or fs o =
      by_test (records_long d (length l)) ShortRecords fs o (length l < 2 * d + 2) (λ e h. omega (arith, leb-true (2 * (d + 1)) (length l) e))
      (λ e. let h = leb-false (2 * (d + 1)) (length l) e in omega arith)

  by_first : ByFirst (chain_reasons t address d (length l)) (chain_outcome (chain_result t address d l).0)
  unfolding chain_result chain_tests position_tests query_tests
  by_first =
      let asks = query_of t (header_of t) address in
      rw (checked_as (λ (a : Chain × List ℕ). chain_outcome a.0) (λ (r : Refusal). (breaks r 0, l)) (chain_tests t address d (length l)) _)
      (good-header_or t _ _ (clear_flag_or t _ _ (position_or _ _ (records_or _ _ (walk-refuses (walk asks d) (walk_by asks d))))))

pub chain_refusals : ChainRefusals
unfolding ByFirst
chain_refusals t address d l = by_first t address d l
