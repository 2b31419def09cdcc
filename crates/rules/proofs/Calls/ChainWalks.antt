-- What a walk down the inlining depths finds, by the queries that it asks.
-- Assumes nothing.
use Prim.Native.Nat.{ℕ, zero, suc, ◌+◌, ◌-◌, ◌*◌, ◌≤◌, ◌<◌}
use mathlib.Core.Path.{◌≡◌, refl, ap}
use mathlib.Core.List.{List, [], ◌∷◌, ◌++◌, map}
use native.Mathlib.Decide.{dec_le}
use native.Mathlib.Omega.{arith}
use lib.ListN.{length}
use Rattle.rules.specs.Choice.{from}
use Rattle.rules.specs.Stores.{flat}
use Rattle.rules.specs.Chains.{Walk, found, missing, before, walk, two_words}
use Rattle.rules.specs.Demands.{AnswersRecord, count_of}
use Rattle.rules.specs.ChainSentences.{total, StandsAt}
use Rattle.rules.specs.declared.Record.{Record}
use Rattle.rules.specs.declared.Refusal.{Refusal}
use Rattle.rules.specs.Answers.{Query, misses}
use Rattle.std.specs.Prelude.{Ok, Err}

-- numbers from e on, with one more at the end
total-last : (f : ℕ → ℕ) (e n : ℕ) → total (map f (from e (suc n))) ≡ total (map f (from e n)) + f (e + n)
total-last f e zero = let k : e + 0 ≡ e = omega arith in rw k (omega arith)
total-last f e (suc n) =
    let k : suc e + n ≡ e + suc n = omega arith in
    let r = total-last f (suc e) n in
    let s = rw k at r in
    omega (arith, s)

module _ (asks : ℕ → Query) where
  abbrev counts : ℕ → ℕ → List ℕ
  counts e n = map (λ (i : ℕ). count_of (asks i)) (from e n)

  -- every depth from d to 0 has its record
  pub record FoundWalk (d : ℕ) (rs : List Record) (n : ℕ) : Type 0 where
    pub many : length rs ≡ suc d
    pub count : n ≡ total (counts 0 (suc d))
    pub records : (e : ℕ) → e ≤ d → (k : List ℕ) → (r : Record) × AnswersRecord (asks e) r × StandsAt (flat (map two_words rs) ++ k) d e r

  -- one depth is the first that has none
  pub record MissingWalk (d n : ℕ) : Type 0 where
    pub depth : ℕ
    pub within : depth ≤ d
    pub gap : (x : Refusal) × (c : ℕ) × (asks depth ≡ misses x c)
    pub above : (i : ℕ) → depth < i → i ≤ d → (r : Record) × AnswersRecord (asks i) r
    pub count : n ≡ total (counts depth (suc (d - depth)))

  abbrev pub WalkBy : ℕ → Walk → Type 0
  WalkBy d (found rs n) = FoundWalk d rs n
  WalkBy d (missing n) = MissingWalk d n

  -- at depth d itself
  gap_here : (d : ℕ) (x : Refusal) (n : ℕ) → asks d ≡ misses x n → MissingWalk d n
  gap_here d x n e =
      let k : d - d ≡ 0 = omega arith in
      record { depth = d; within = omega arith; gap = (x, n, e); above = λ i a b. absurd (omega arith); count = rw (k, e) (omega arith) }

  pub walk_by : (d : ℕ) → WalkBy d (walk asks d)
  unfolding walk
  walk_by zero = go (asks 0) refl
    where
      go : (q : Query) → asks 0 ≡ q → WalkBy 0 (before q (found [] 0))
      go (Ok q) e =
          record {
            many = refl;
            count = rw e;
            records = λ i h k. let z : i ≡ 0 = omega arith in rw z (q.what, (q.spot, q.looked, e), (refl, refl));
          }
      go (Err q) e = gap_here 0 q.refusal q.looked e
  walk_by (suc d) = go (asks (suc d)) refl (walk asks d) (walk_by d)
    where
      go : (q : Query) → asks (suc d) ≡ q → (w : Walk) → WalkBy d w → WalkBy (suc d) (before q w)
      go (Ok q) e (found rs m) k =
          record {
            many = omega (arith, k.many);
            count =
                let z : 0 + suc d ≡ suc d = omega arith in
                let s = rw (z, e) at (total-last (λ (i : ℕ). count_of (asks i)) 0 (suc d)) in
                omega (arith, s, k.count);
            records = λ i h l. at_depth i (dec_le i d) h l;
          }
        where
          at_depth : (i : ℕ) → Dec (i ≤ d) → i ≤ suc d → (l : List ℕ)
              → (v : Record) × AnswersRecord (asks i) v × StandsAt (flat (map two_words (q.what ∷ rs)) ++ l) (suc d) i v
          at_depth i (yes s) h l =
              let b = k.records i s l in
              let y : 2 * (suc d - i) ≡ suc (suc (2 * (d - i))) = omega arith in
              let z : 2 * (suc d - i) + 1 ≡ suc (suc (2 * (d - i) + 1)) = omega arith in
              (b.0, b.1, (rw y b.2.0, rw z b.2.1))
          at_depth i (no s) h l =
              let y : i ≡ suc d = omega arith in
              let z : suc d - suc d ≡ 0 = omega arith in
              rw (y, z) (q.what, (q.spot, q.looked, e), (refl, refl))
      go (Ok q) e (missing m) k =
          let p = k.depth in
          let y : suc d - p ≡ suc (d - p) = omega (arith, k.within) in
          let z : p + suc (d - p) ≡ suc d = omega (arith, k.within) in
          let s = rw (z, e) at (total-last (λ (i : ℕ). count_of (asks i)) p (suc (d - p))) in
          record {
            depth = p;
            within = omega (arith, k.within);
            gap = k.gap;
            above = λ i a b. over i (dec_le i d) a b;
            count = rw y (omega (arith, s, k.count));
          }
        where
          over : (i : ℕ) → Dec (i ≤ d) → k.depth < i → i ≤ suc d → (v : Record) × AnswersRecord (asks i) v
          over i (yes s) a b = k.above i a s
          over i (no s) a b = let y : i ≡ suc d = omega arith in rw y (q.what, (q.spot, q.looked, e))
      go (Err q) e w k = gap_here (suc d) q.refusal q.looked e

-- a walk sees the queries alone
pub walk_same : (f g : ℕ → Query) → ((e : ℕ) → f e ≡ g e) → (d : ℕ) → walk f d ≡ walk g d
unfolding walk
walk_same f g h zero = ap (λ (q : Query). before q (found [] 0)) (h zero)
walk_same f g h (suc d) = rw (h (suc d), walk_same f g h d)
