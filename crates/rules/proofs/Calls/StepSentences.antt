-- Which item a step takes, and when it gives 6 and 11, on every table: from a given bucket on, and then from the first, which is request b).
-- Assumes nothing.
use Prim.Native.Nat.{ℕ, ◌<◌}
use mathlib.Core.Path.{◌≡◌, refl, sym, ◌∙◌, subst}
use mathlib.Core.List.{List, [], ◌∷◌}
use mathlib.Core.Logic.{◌↔◌, inl, inr}
use native.Mathlib.Omega.{arith}
use lib.ListN.{length}
use Rattle.rules.specs.Words.{Table, header_of, key_in}
use Rattle.rules.specs.NoPlace.{NoPlaceFor}
use Rattle.rules.specs.Stores.{Store}
use Rattle.rules.specs.Answers.{number_of}
use Rattle.rules.specs.Calls.{Outcome, refused, listed, step_from, step, outcome}
use Rattle.rules.specs.Results.{step_from_result}
use Rattle.rules.specs.Demands.{AtRest, InterimItem, None, NoInterim, InterimFrom, NoneHasPlace, MayChange, FirstRefuses, StepWritten}
use Rattle.rules.specs.StepSentences.{MayStep, StepTakesTheFirst, NoItemBlocks, SixExactly, ElevenExactly, SixIsNotEleven}
use Rattle.rules.specs.StepFromSentences.{TakesTheFirstFrom, ElevenFromExactly, SixFromExactly}
use Rattle.rules.specs.declared.Refusal.{Refusal}
use Rattle.rules.specs.declared.Slot.{Slot}
use Rattle.rules.specs.declared.Refusal.TheVariants.{InterimEmpty, NoPlace, NotResizing}
use Rattle.rules.proofs.Tables.Interims.{bucket-counted, interim-size, first_one, first-item, from_zero, first-from_zero}
use Rattle.rules.proofs.Calls.Refusals.{same_number, past_three, behind-three, refusals_in_order}
use Rattle.rules.proofs.Calls.StoreLists.{stores_as_written, never-listed}

-- items remain, or none does
remain-none : (t : Table) (Items : Slot → Type 0) → NoneHasPlace t Items → None Items → ⊥
remain-none t Items stuck none = none stuck.remain.0 stuck.remain.1

pub six_is_not_eleven : SixIsNotEleven
six_is_not_eleven t = remain-none t (InterimItem t)

-- ---- from bucket b on

module _ (t : Table) (n b : ℕ) where
  -- the reasons behind the first tests
  abbrev Behind : Outcome → Type 0
  Behind = FirstRefuses ((None (InterimFrom t b), InterimEmpty) ∷ (NoneHasPlace t (InterimFrom t b), NoPlace) ∷ [])

  -- and 8 before them
  abbrev WithEight : List (Type 0 × Refusal)
  WithEight = (AtRest t, NotResizing) ∷ (None (InterimFrom t b), InterimEmpty) ∷ (NoneHasPlace t (InterimFrom t b), NoPlace) ∷ []

  past_tests : MayStep t n → Behind (outcome t n (step_from b))
  past_tests may = go (past_three t n WithEight (outcome t n (step_from b)) may.change (refusals_in_order t n (step_from b)))
    where
      go : FirstRefuses WithEight (outcome t n (step_from b)) → Behind (outcome t n (step_from b))
      go (inl (rest, e)) = absurd (may.resizing rest)
      go (inr (g, k)) = k

  -- what is refused by none of 1, 2, 3 and 8 comes after them
  pub came_behind : (o : Outcome) → ((r : Refusal) → o ≡ refused r → (3 < number_of r) × (number_of r ≡ 8 → ⊥)) → outcome t n (step_from b) ≡ o
      → MayStep t n × Behind (outcome t n (step_from b))
  came_behind o late e = go (behind-three t n WithEight (outcome t n (step_from b)) (λ r q. (late r (sym e ∙ q)).0) (refusals_in_order t n (step_from b)))
    where
      go : MayChange t n × FirstRefuses WithEight (outcome t n (step_from b)) → MayStep t n × Behind (outcome t n (step_from b))
      go (may, inl (rest, q)) = absurd ((late _ (sym e ∙ q)).1 refl)
      go (may, inr (g, k)) = (record { change = may; resizing = g }, k)

  refused-behind : (r : Refusal) → 3 < number_of r → (number_of r ≡ 8 → ⊥) → outcome t n (step_from b) ≡ refused r
      → MayStep t n × Behind (outcome t n (step_from b))
  refused-behind r late other e =
      came_behind (refused r) (λ s q. let k = same_number q in (omega (arith, late, k), λ f. other (k ∙ f))) e

  pub accepted-behind : (xs : List Store) → outcome t n (step_from b) ≡ listed xs → MayStep t n
  accepted-behind xs e = (came_behind (listed xs) (λ s q. never-listed (sym q)) e).0

-- where the first tests let a step pass, 11 and 6 mean what they should
behind_exactly : (t : Table) (n b : ℕ) (o : Outcome) → Behind t n b o
    → ((o ≡ refused InterimEmpty) ↔ None (InterimFrom t b)) × ((o ≡ refused NoPlace) ↔ NoneHasPlace t (InterimFrom t b))
behind_exactly t n b o (inl (empty, q)) = (
  (λ e. empty, λ k. q),
  (λ e. let z = same_number (sym q ∙ e) in absurd (omega arith), λ stuck. absurd (remain-none t _ stuck empty)),
)
behind_exactly t n b o (inr (i, inl (stuck, q))) =
    ((λ e. let z = same_number (sym q ∙ e) in absurd (omega arith), λ k. absurd (i k)), (λ e. stuck, λ k. q))
behind_exactly t n b o (inr (i, inr (d, (xs, q)))) =
    ((λ e. never-listed (sym e ∙ q), λ k. absurd (i k)), (λ e. never-listed (sym e ∙ q), λ k. absurd (d k)))

pub eleven_from_exactly : ElevenFromExactly
eleven_from_exactly t n b = (
  λ e. let k = refused-behind t n b InterimEmpty (omega arith) (λ k. omega arith) e in (k.0, (behind_exactly t n b _ k.1).0.0 e),
  λ k. (behind_exactly t n b _ (past_tests t n b k.0)).0.1 k.1,
)

pub six_from_exactly : SixFromExactly
six_from_exactly t n b = (
  λ e. let k = refused-behind t n b NoPlace (omega arith) (λ k. omega arith) e in (k.0, (behind_exactly t n b _ k.1).1.0 e),
  λ k. (behind_exactly t n b _ (past_tests t n b k.0)).1.1 k.1,
)

-- an item from there on that has a place
none_blocks : (t : Table) (n b : ℕ) (x : Slot) → MayStep t n → InterimFrom t b x → (NoPlaceFor t (header_of t) (key_in t x) → ⊥)
    → (stores : List Store) × (outcome t n (step_from b) ≡ listed stores)
none_blocks t n b x may item place = go (past_tests t n b may)
  where
    go : Behind t n b (outcome t n (step_from b)) → (stores : List Store) × (outcome t n (step_from b) ≡ listed stores)
    go (inl (empty, q)) = absurd (empty x item)
    go (inr (i, inl (stuck, q))) = absurd (place (stuck.stuck x item))
    go (inr (i, inr (d, k))) = k

pub takes_the_first_from : TakesTheFirstFrom
unfolding step_from_result
takes_the_first_from t b l x may first =
    let a = none_blocks t (length l) b x may first.item first.place in
    let w = stores_as_written t (length l) (step_from b) a.0 a.1 in
    let item = first-item t b x first in
    record {
      stores = a.0;
      list = a.1;
      written = subst (λ y. StepWritten t (header_of t) y a.0) (first_one t b w.0 x w.1 first) w.2;
      answer = rw (a.1, item);
      bucket = rw (a.1, item, interim-size t) (bucket-counted t x first.item.item).0;
    }

-- ---- from the first bucket on: the step

none_at_all : (t : Table) → None (InterimFrom t 0) ↔ NoInterim t
none_at_all t = (λ n x i. n x ((from_zero t x).1 i), λ n x u. n x u.item)

all-stuck : (t : Table) → NoneHasPlace t (InterimFrom t 0) ↔ NoneHasPlace t (InterimItem t)
all-stuck t = (
  λ s. record { remain = (s.remain.0, s.remain.1.item); stuck = λ x i. s.stuck x ((from_zero t x).1 i) },
  λ s. record { remain = (s.remain.0, (from_zero t s.remain.0).1 s.remain.1); stuck = λ x u. s.stuck x u.item },
)

pub eleven_exactly : ElevenExactly
eleven_exactly t n = (
  λ e. let k = (eleven_from_exactly t n 0).0 e in (k.0, (none_at_all t).0 k.1),
  λ k. (eleven_from_exactly t n 0).1 (k.0, (none_at_all t).1 k.1),
)

pub six_exactly : SixExactly
six_exactly t n = (λ e. let k = (six_from_exactly t n 0).0 e in (k.0, (all-stuck t).0 k.1), λ k. (six_from_exactly t n 0).1 (k.0, (all-stuck t).1 k.1))

pub no_item_blocks : NoItemBlocks
no_item_blocks t n x may item place = none_blocks t n 0 x may ((from_zero t x).1 item) place

pub step_takes_the_first : StepTakesTheFirst
step_takes_the_first t n x may first =
    let a = no_item_blocks t n x may first.item first.place in
    let w = stores_as_written t n step a.0 a.1 in
    (a.0, a.1, subst (λ y. StepWritten t (header_of t) y a.0) (first_one t 0 w.0 x w.1 (first-from_zero t x first)) w.2)
