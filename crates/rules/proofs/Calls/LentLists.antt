-- The lent list: "A refusal changes no buffer and reports 0 stores. A changing call or recovery that succeeds writes only the
-- list's first 2·stores words", and there they are read back as the stores that it reports.
-- Assumes nothing.
use Prim.Native.Nat.{ℕ, zero, suc, ◌*◌, ◌≤◌}
use mathlib.Core.Path.{◌≡◌, refl, sym, ap, ◌∙◌}
use mathlib.Core.List.{List, [], ◌∷◌, ◌++◌}
use native.Mathlib.Omega.{arith}
use lib.ListN.{length, take, drop}
use lib.Seq.{length-take-le, length_front, take-length, drop_at}
use Rattle.rules.specs.Stores.{Store, flat, written, pairs}
use Rattle.rules.specs.Calls.{Outcome, refused, listed, outcome}
use Rattle.rules.specs.Results.{change_of, list_after, change_result}
use Rattle.rules.specs.Demands.{AnswersBy, ChangeAnswers, StandsIn}
use Rattle.rules.proofs.Words.Pairs.{pairs-stand}
use Rattle.rules.proofs.Calls.StoreNumbers.{stores_fit}

pub flat_length : (xs : List Store) → length (flat xs) ≡ 2 * length xs
flat_length [] = refl
flat_length (x ∷ xs) = omega (arith, flat_length xs)

pairs-flat : (n : ℕ) (xs : List Store) (l : List ℕ) → n ≤ length xs → pairs n (flat xs ++ l) ≡ take n xs
pairs-flat zero xs l h = refl
pairs-flat (suc n) [] l h = absurd (omega arith)
pairs-flat (suc n) (x ∷ xs) l h = ap (λ (ys : List Store). x ∷ ys) (pairs-flat n xs l (omega arith))

module _ (xs : List Store) (l : List ℕ) where
  -- the first n stores are read back
  pub written-pairs : (n : ℕ) → n ≤ length xs → pairs n (written xs l) ≡ take n xs
  unfolding written
  written-pairs n h = pairs-flat n xs (drop (2 * length xs) l) h

  pub written_length : 2 * length xs ≤ length l → length (written xs l) ≡ length l
  unfolding written
  written_length h = length_front l (flat xs) (2 * length xs) (flat_length xs ∙ sym (length-take-le (2 * length xs) l h))

  pub written-rest : drop (2 * length xs) (written xs l) ≡ drop (2 * length xs) l
  unfolding written
  written-rest = drop_at (flat xs) (drop (2 * length xs) l) (2 * length xs) (flat_length xs)

pub change_answers : ChangeAnswers
unfolding change_result
change_answers t l q = go (outcome t (length l) q) refl
  where
    go : (o : Outcome) → outcome t (length l) q ≡ o → AnswersBy o (change_of o) l (list_after o l)
    go (refused r) e = (refl, refl)
    go (listed xs) e =
        let room = stores_fit t (length l) q xs e in
        let read : pairs (length xs) (written xs l) ≡ xs = written-pairs xs l (length xs) (omega arith) ∙ take-length xs in
        let stands : StandsIn xs (written xs l) = rw read at (pairs-stand (length xs) (written xs l)) in
        (refl, room, written_length xs l room, stands, written-rest xs l)
