-- The list as a call left it, made by `make` up to any number of the reported stores: the table with so many of the stores that the call
-- lists. So an event, which goes by the list and make, is what its outcome says.
-- Assumes nothing.
use Prim.Native.Nat.{ℕ, zero, suc, ◌*◌, ◌≤◌, min}
use mathlib.Core.Path.{◌≡◌, refl, ap, ◌∙◌}
use mathlib.Core.List.Memᴰ
use mathlib.Core.List.Memᴰ.{head as here}
use mathlib.Core.List.Memᴰ.{tail as there}
use mathlib.Core.List.{List, [], ◌∷◌, Memᴰ as In}
use mathlib.Core.Logic.{inl, inr, ⊎_elim}
use native.Mathlib.Omega.{arith}
use lib.ListN.{length, take}
use lib.Seq.{take_all}
use Rattle.rules.specs.Words.{Table}
use Rattle.rules.specs.Stores.{Store, written, made}
use Rattle.rules.specs.Calls.{Outcome, refused, listed, Call, outcome}
use Rattle.rules.specs.Results.{change_of, list_after, change_result, make_result}
use Rattle.rules.specs.Histories.{whole, cut, reported, kept, after, Accepted}
use Rattle.rules.specs.Demands.{Outside, MakeTakesTheList}
use Rattle.std.specs.Prelude.{Ok}
use Rattle.rules.specs.Answers.{Verdict}
use Rattle.rules.proofs.Calls.StoreNumbers.{stores_fit}
use Rattle.rules.proofs.Words.Pairs.{in_pairs}
use Rattle.rules.proofs.Calls.LentLists.{written-pairs, written_length}
use Rattle.rules.proofs.Calls.Making.{make_passes}
use Rattle.rules.proofs.Calls.Inside.{stores_inside}

take_in : {A : Type 0} (n : ℕ) (l : List A) (x : A) → In x (take n l) → In x l
take_in zero l x i = absurd (Memᴰ.not-nil i)
take_in (suc n) [] x i = i
take_in (suc n) (y ∷ ys) x i = ⊎_elim (λ (e : x ≡ y). here e) (λ (j : In x (take n ys)). there (take_in n ys x j)) (Memᴰ.cases_cons i)

module _ (t : Table) (l : List ℕ) (q : Call) (xs : List Store) (e : outcome t (length l) q ≡ listed xs) where
  -- the first n stores of the list, made
  made-from-list : (n : ℕ) → n ≤ length xs → make_result t (written xs l) n ≡ (Ok tt, made t (take n xs))
  made-from-list n few = make_passes t (written xs l) n inside ∙ rw (written-pairs xs l n few)
    where
      room : 2 * n ≤ length (written xs l)
      room = omega (arith, written_length xs l (stores_fit t (length l) q xs e), stores_fit t (length l) q xs e)

      inside : Outside t (written xs l) n → ⊥
      inside (inl short) = omega (arith, room)
      inside (inr (i, less, out)) =
          omega (arith, out, stores_inside t (length l) q xs e _ (take_in n xs _ (rw (written-pairs xs l n few) at (in_pairs n (written xs l) room i less))))

pub make_takes_the_list : MakeTakesTheList
unfolding change_result
make_takes_the_list t l q s a n few = go (outcome t (length l) q) refl a
  where
    go : (o : Outcome) → outcome t (length l) q ≡ o → change_of o ≡ Ok s
        → (xs : List Store) × (o ≡ listed xs) × (length xs ≡ s) × (make_result t (list_after o l) n ≡ (Ok tt, made t (take n xs)))
    go (refused r) e b = absurd (let z : ◌≡◌ {A = ℕ} 0 1 = cc in omega arith)
    go (listed xs) e b = let number : length xs ≡ s = cc in (xs, refl, number, made-from-list t l q xs e n (rw number few))

-- ---- an event by its outcome

-- the stores that an outcome lists
abbrev pub stores_of : Outcome → List Store
stores_of (refused r) = []
stores_of (listed stores) = stores

module _ (t : Table) (l : List ℕ) (q : Call) where
  pub reported-stores : reported (change_result t l q).0 ≡ length (stores_of (outcome t (length l) q))
  unfolding change_result
  reported-stores = go (outcome t (length l) q)
    where
      go : (o : Outcome) → reported (change_of o) ≡ length (stores_of o)
      go (refused r) = refl
      go (listed xs) = refl

  first_made : (n : ℕ) → n ≤ reported (change_result t l q).0 → (make_result t (change_result t l q).1 n).1 ≡ made t (take n (stores_of (outcome t (length l) q)))
  unfolding change_result
  first_made n few = go (outcome t (length l) q) refl few
    where
      -- a refusal reports no stores, and of any list none are made
      nothing : Outside t l 0 → ⊥
      nothing (inl short) = omega arith
      nothing (inr (i, less, out)) = omega arith

      go : (o : Outcome) → outcome t (length l) q ≡ o → n ≤ reported (change_of o) → (make_result t (list_after o l) n).1 ≡ made t (take n (stores_of o))
      go (refused r) e k =
          let none : n ≡ 0 = omega (arith, k) in
          rw none (ap (λ (v : Verdict × Table). v.1) (make_passes t l 0 nothing))
      go (listed xs) e k = ap (λ (v : Verdict × Table). v.1) (made-from-list t l q xs e n k)

  pub after-whole : after t (whole q l) ≡ made t (stores_of (outcome t (length l) q))
  after-whole =
      let n = reported (change_result t l q).0 in
      first_made n (omega arith) ∙ ap (made t) (take_all n (stores_of (outcome t (length l) q)) (omega (arith, reported-stores)))

  pub after-cut : (n : ℕ) → after t (cut q l n) ≡ made t (take (kept t (cut q l n)) (stores_of (outcome t (length l) q)))
  after-cut n = first_made (min n (reported (change_result t l q).0)) (omega arith)

  -- an accepted call lists stores
  pub accepted-lists : Accepted (change_result t l q).0 → (xs : List Store) × (outcome t (length l) q ≡ listed xs)
  unfolding change_result
  accepted-lists a = go (outcome t (length l) q) a
    where
      go : (o : Outcome) → Accepted (change_of o) → (xs : List Store) × (o ≡ listed xs)
      go (refused r) b = absurd b
      go (listed xs) b = (xs, refl)

  pub lists-accepted : (xs : List Store) → outcome t (length l) q ≡ listed xs → Accepted (change_result t l q).0
  unfolding change_result
  lists-accepted xs e = rw e tt
