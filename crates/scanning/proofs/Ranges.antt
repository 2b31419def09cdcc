-- What a chain over a range that tests each number says of all of them.
-- Assumes nothing.
use Prim.Native.Nat.{ℕ, zero, suc, ◌+◌, ◌-◌, ◌<◌}
use mathlib.Core.Path.{◌≡◌, refl, sym, ap, subst, ◌∙◌}
use mathlib.Core.Bool.{Bool, true, false, ◌&&◌, ◌||◌}
use mathlib.Core.List.{List, [], ◌∷◌, map}
use native.Mathlib.Omega.{arith}
use denote.Param.Members.{Mut, Called}
use Rattle.std.specs.Prelude.{Option, Some, None, IfSome, IsSomeAnd, IsTrue, option_map}
use Rattle.std.specs.Bool.{MatchBool}
use Rattle.std.specs.declared.ops.Range.{Range}
use Rattle.std.specs.Iterator.Runs.{SomeRun, AllItemsGive, AnyItemGives, CallKeepsClosure}
use Rattle.std.proofs.iter.Yields.{nat_range_steps}
use Rattle.std.proofs.iter.runs.Sources.{range_runs}
use Rattle.std.proofs.lemmas.Option.{same_Some, none-some}
use lib.ListN.{length, get_or, drop}
use Rattle.rules.specs.Choice.{all, any, from}
use Rattle.rules.proofs.Basics.Walks.{stands_at_lem}

all_pass : (P : ℕ → Bool) (n a : ℕ) → ((i : ℕ) → i < n → P (a + i) ≡ true) → all (map P (from a n)) ≡ true
all_pass P zero a h = refl
all_pass P (suc n) a h =
    rw (let z : P a ≡ true = let i : a + 0 ≡ a = omega arith in rw i at (h 0 (omega arith)) in z)
    (all_pass P n (suc a) (λ i l. let j : a + suc i ≡ suc a + i = omega arith in rw j at (h (suc i) (omega (arith, l)))))

one_fails : (P : ℕ → Bool) (n a i : ℕ) → i < n → P (a + i) ≡ false → all (map P (from a n)) ≡ false
one_fails P zero a i l h = absurd (omega (arith, l))
one_fails P (suc n) a zero l h = let j : a + 0 ≡ a = omega arith in rw (rw j at h)
one_fails P (suc n) a (suc i) l h =
    let j : a + suc i ≡ suc a + i = omega arith in
    rw (one_fails P n (suc a) i (omega (arith, l)) (rw j at h)) (none_passes (P a))
  where
    none_passes : (b : Bool) → (b && false) ≡ false
    none_passes true = refl
    none_passes false = refl

module _ {F : Type 0} {g : Mut F (ℕ × Unit {0}) Bool} {f : F} (P : ℕ → Bool) (keeps : CallKeepsClosure g f)
    (answers : (j : ℕ) (r : Bool) → Called g f (j, tt) r f → r ≡ P j) where
  item_passes : (o : Option ℕ) (r : Bool) (n : ℕ) → option_map (λ y. y) o ≡ Some n → IfSome o (λ x. Called g f (x, tt) r f) → P n ≡ r
  item_passes None r n e h = absurd (none-some n e)
  item_passes (Some x) r n e h = subst (λ z. P z ≡ r) (same_Some x n e) (sym (answers x r h))

  item_fails : (o : Option ℕ) (r : Bool) (n : ℕ) → option_map (λ y. y) o ≡ Some n → IsSomeAnd o (λ x. Called g f (x, tt) r f) → P n ≡ r
  item_fails None r n e h = absurd h
  item_fails (Some x) r n e h = subst (λ z. P z ≡ r) (same_Some x n e) (sym (answers x r h))

  -- the chain `(a..b).all(f)`, of a range of n numbers
  pub all_told : (s : Range ℕ) (r : Bool)
      → SomeRun nat_range_steps s (λ p. MatchBool r (IsTrue p.whole × AllItemsGive p g f true) (AnyItemGives p g f false))
      → (n : ℕ) → s.end - s.start ≡ n → r ≡ all (map P (from s.start n))
  all_told s true u n e =
      let p = u.0 in
      let c = range_runs p p.seen in
      let w = u.2 in
      let passes : (i : ℕ) → i < p.from.end - p.from.start → P (p.from.start + i) ≡ true =
      λ i l. item_passes (p.at i) true (p.from.start + i) (c.3 i (omega (arith, l, c.1 w.0))) (w.1 keeps i) in
      rw (← e) (subst (λ z. true ≡ all (map P (from z.start (z.end - z.start)))) u.1 (sym (all_pass P _ _ passes)))
  all_told s false u n e =
      let p = u.0 in
      let c = range_runs p p.seen in
      let k = u.2 keeps in
      rw (← e)
      (subst (λ z. false ≡ all (map P (from z.start (z.end - z.start)))) u.1
      (sym (one_fails P _ _ k.0 (omega (arith, c.0, k.1)) (item_fails (p.at k.0) false (p.from.start + k.0) (c.3 k.0 k.1) k.2))))

-- ---- a test of the elements of a list, by their indices

module _ {A : Type 0} (p : A → Bool) where
  one_passes : (l : List A) (k : ℕ) (d : A) → k < length l → p (get_or l k d) ≡ true → any (map p l) ≡ true
  one_passes [] k d b e = absurd (omega (arith, b))
  one_passes (x ∷ xs) zero d b e = rw e refl
  one_passes (x ∷ xs) (suc k) d b e = rw (one_passes xs k d (omega (arith, b)) e) (either_passes (p x))
    where
      either_passes : (b : Bool) → (b || true) ≡ true
      either_passes true = refl
      either_passes false = refl

  none_passes : (l : List A) → ((k : ℕ) → k < length l → (d : A) → p (get_or l k d) ≡ false) → any (map p l) ≡ false
  none_passes [] h = refl
  none_passes (x ∷ xs) h = rw (h 0 (omega arith) x) (none_passes xs (λ k b d. h (suc k) (omega (arith, b)) d))

  module _ (l : List A) {F : Type 0} {g : Mut F (ℕ × Unit {0}) Bool} {f : F} (keeps : CallKeepsClosure g f)
      (answers : (j : ℕ) (r : Bool) → Called g f (j, tt) r f → (x : A) × (drop j l ≡ x ∷ drop (j + 1) l) × (r ≡ p x)) where
    told : (j : ℕ) (r : Bool) (d : A) → Called g f (j, tt) r f → p (get_or l j d) ≡ r
    told j r d h = let a = answers j r h in rw (stands_at_lem d l j a.1) (sym a.2)

    missed : (o : Option ℕ) (n : ℕ) (d : A) → option_map (λ y. y) o ≡ Some n → IfSome o (λ x. Called g f (x, tt) false f) → p (get_or l n d) ≡ false
    missed None n d e h = absurd (none-some n e)
    missed (Some x) n d e h = subst (λ z. p (get_or l z d) ≡ false) (same_Some x n e) (told x false d h)

    hit : (o : Option ℕ) (n : ℕ) → option_map (λ y. y) o ≡ Some n → IsSomeAnd o (λ x. Called g f (x, tt) true f) → (d : A) → p (get_or l n d) ≡ true
    hit None n e h d = absurd h
    hit (Some x) n e h d = subst (λ z. p (get_or l z d) ≡ true) (same_Some x n e) (told x true d h)

    -- the chain `(0..l.len()).any(f)`
    pub any_told : (s : Range ℕ) (r : Bool)
        → SomeRun nat_range_steps s (λ q. MatchBool r (AnyItemGives q g f true) (IsTrue q.whole × AllItemsGive q g f false))
        → s.start ≡ 0 → s.end ≡ length l → r ≡ any (map p l)
    any_told s true u e m =
        let q = u.0 in
        let c = range_runs q q.seen in
        let k = u.2 keeps in
        let first : q.from.start ≡ 0 = ap (λ (z : Range ℕ). z.start) u.1 ∙ e in
        let last : q.from.end ≡ length l = ap (λ (z : Range ℕ). z.end) u.1 ∙ m in
        let at : q.from.start + k.0 ≡ k.0 = omega (arith, first) in
        let d = (answers k.0 true (called (q.at k.0) k.0 (c.3 k.0 k.1 ∙ ap Some at) k.2)).0 in
        sym (one_passes l k.0 d (omega (arith, c.0, k.1, first, last)) (hit (q.at k.0) k.0 (c.3 k.0 k.1 ∙ ap Some at) k.2 d))
      where
        called : (o : Option ℕ) (n : ℕ) → option_map (λ y. y) o ≡ Some n → IsSomeAnd o (λ x. Called g f (x, tt) true f) → Called g f (n, tt) true f
        called None n e h = absurd h
        called (Some x) n e h = subst (λ z. Called g f (z, tt) true f) (same_Some x n e) h
    any_told s false u e m =
        let q = u.0 in
        let c = range_runs q q.seen in
        let w = u.2 in
        let first : q.from.start ≡ 0 = ap (λ (z : Range ℕ). z.start) u.1 ∙ e in
        let last : q.from.end ≡ length l = ap (λ (z : Range ℕ). z.end) u.1 ∙ m in
        sym (none_passes l (λ k b d.
        let at : q.from.start + k ≡ k = omega (arith, first) in
        missed (q.at k) k d (c.3 k (omega (arith, b, c.1 w.0, first, last)) ∙ ap Some at) (w.1 keeps k)))
