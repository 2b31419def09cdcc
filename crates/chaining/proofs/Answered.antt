-- The chain behind its tests: each way through the code gives the answer and the lent words of the rules.
-- Assumes nothing.
use Prim.Native.Nat.{ℕ, ◌+◌, ◌*◌, ◌^◌, ◌≤◌, ◌<◌}
use mathlib.Core.Path.{◌≡◌, refl, sym, ap, ◌∙◌}
use mathlib.Core.Bool.{Bool, true, false}
use mathlib.Core.List.{List, map}
use native.Mathlib.Omega.{arith}
use lib.ListN.{length, length-map}
use borrow.Author.Tests.{le-leb, lt-leb}
use Rattle.rules.specs.Words.{Table, header_of}
use Rattle.rules.specs.Answers.{chain_means, breaks}
use Rattle.rules.specs.Calls.{query_tests, checked}
use Rattle.rules.specs.Chains.{position_good, records_long, position_tests, chain_tests, Walk, found, missing, walk, query_of, two_words, chain_of, chain_result}
use Rattle.rules.specs.declared.Header.{Header}
use Rattle.rules.specs.declared.Refusal.{Refusal}
use Rattle.rules.specs.declared.Refusal.TheVariants.{ShortRecords, BadPosition}
use Rattle.rules.specs.Answers.{Chain}
use Rattle.std.specs.Prelude.{Ok, Err}
use Rattle.rules.proofs.Basics.Tests.{tells_lt, tells_le, tells_and}
use Rattle.rules.proofs.Calls.Checked.{checked_append}
use Rattle.rules.proofs.Calls.Meanings.{chain_one}
use Rattle.rules.proofs.Calls.ChainWalks.{WalkBy, walk_by}
use Rattle.reading.specs.Gates.{gate_of}
use Rattle.reading.specs.Gates.{Gate}
use Rattle.reading.proofs.Gated.{gate_open, gate_shut}
use Rattle.listing.proofs.Runs.{front}
use Rattle.chaining.specs.Walks.{answered, laid_at, Walked, chain_in, ChainedAt}
use Rattle.chaining.specs.Promises.{Chained}

pub position-means : (address depth : ℕ) → position_good address depth ≡ true → (address < 2 ^ 56) × (depth ≤ 255)
unfolding position_good
position-means address depth e = (tells_and _ _ (tells_lt address (2 ^ 56)) (tells_le depth 255)).0 e

-- ---- behind the tests 1 and 3

module _ (t : Table) (address depth : ℕ) (l : List ℕ) where
  pub no_position : {b : Bool} → b ≡ position_good address depth → b ≡ false → ChainedAt t address depth l (breaks BadPosition 0) l
  unfolding position_tests
  no_position e k = let f = sym e ∙ k in record { answer = rw f; records = rw f }

  module _ (good : position_good address depth ≡ true) where
    pub no_room : length l < 2 * (depth + 1) → ChainedAt t address depth l (breaks ShortRecords 0) l
    unfolding position_tests records_long
    no_room s = record { answer = rw (good, lt-leb _ _ s); records = rw (good, lt-leb _ _ s) }

    -- what the walk answers, counts and writes from the first pair on is what the rules say of it
    told : (w : Walk) {b : Bool} {m : List ℕ} {k : ℕ} → Walked w 0 l 0 b m k → answered b k ≡ (chain_of w l).0
    told (found rs n) {k = k} v = let e : k ≡ n = omega (arith, v.count) in rw (v.answer, e)
    told (missing n) {k = k} v = let e : k ≡ n = omega (arith, v.count) in rw (v.answer, e)

    module _ (s : 2 * (depth + 1) ≤ length l) where
      laid : (w : Walk) → WalkBy (query_of t (header_of t) address) depth w → laid_at w 0 l ≡ (chain_of w l).1
      laid (found rs n) k = front l (map two_words rs) (omega (arith, length-map rs two_words, k.many))
      laid (missing n) k = refl

      pub walked : {b : Bool} {m : List ℕ} {k : ℕ} → Walked (walk (query_of t (header_of t) address) depth) 0 l 0 b m k
          → {c : Chain} → c ≡ answered b k → ChainedAt t address depth l c m
      unfolding position_tests records_long
      walked v e =
          let asks = query_of t (header_of t) address in
          record {
            answer = rw (good, le-leb _ _ s) (e ∙ told (walk asks depth) v);
            records = rw (good, le-leb _ _ s) (v.records ∙ laid (walk asks depth) (walk_by asks depth));
          }

-- ---- the tests 1 and 3

module _ (t : Table) (address depth : ℕ) (l : List ℕ) where
  behind : chain_result t address depth l ≡ checked (λ (r : Refusal). (breaks r 0, l)) (query_tests t) (chain_in t address depth l)
  unfolding chain_result chain_tests
  behind = checked_append (λ (r : Refusal). (breaks r 0, l)) (query_tests t) _ _

  chained : {c : Chain} {m : List ℕ} → (c, m) ≡ chain_result t address depth l → Chained t address depth l c t m
  chained e =
      record { answer = ap (λ (a : Chain × List ℕ). chain_means a.0) e; table = refl; records = ap (λ (a : Chain × List ℕ). a.1) e }

  module _ {g : Gate} (e : g ≡ gate_of t (query_tests t)) where
    pub refused : {r : Refusal} → g ≡ Err r → Chained t address depth l (breaks r 0) t l
    refused q = chained (gate_shut t (query_tests t) e (λ (r : Refusal). (breaks r 0, l)) _ q ∙ sym behind)

    pub let_through : {h : Header} {c : Chain} {m : List ℕ} → g ≡ Ok h → ChainedAt t address depth l c m → Chained t address depth l c t m
    let_through q s =
        chained (both s.answer s.records ∙ gate_open t (query_tests t) e (λ (r : Refusal). (breaks r 0, l)) _ q ∙ sym behind)
      where
        both : {c : Chain} {m : List ℕ} {a : Chain × List ℕ} → c ≡ a.0 → m ≡ a.1 → (c, m) ≡ a
        both x y = rw (x, y)

-- no second answer, no second table and no second lent words keep the promise
pub chained-one : (t : Table) (address depth : ℕ) (l : List ℕ) (c d : Chain) (u v : Table) (m n : List ℕ)
    → Chained t address depth l c u m → Chained t address depth l d v n → (c ≡ d) × (u ≡ v) × (m ≡ n)
chained-one t address depth l c d u v m n a b = (chain_one c d (a.answer ∙ sym b.answer), a.table ∙ sym b.table, a.records ∙ sym b.records)
