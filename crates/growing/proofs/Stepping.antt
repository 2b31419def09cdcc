-- What a growth step does behind the first tests, and through them.
-- Assumes nothing.
use Prim.Native.Nat.{ℕ, ◌+◌, ◌*◌, ◌≤◌}
use mathlib.Core.Path.{◌≡◌, refl, sym, ap, ◌∙◌, subst}
use mathlib.Core.Bool.{true, false}
use mathlib.Core.List.{List, [], ◌∷◌, ◌++◌, head?}
use mathlib.Core.Option.{Option, none, some}
use native.Mathlib.Nat.{zero-add}
use native.Mathlib.Omega.{arith}
use denote.Enum.Declared.{tag_of}
use types.Run.{OneOf}
use lib.ListN.{length, length-append}
use Rattle.rules.specs.Choice.{empty}
use Rattle.rules.specs.Words.{Table, header_of, at_rest, key_in, record_in, token_of}
use Rattle.rules.specs.Placing.{placing}
use Rattle.rules.specs.Stores.{written, placing_stores, clear_stores, step_stores}
use Rattle.rules.specs.Calls.{Outcome, refused, listed, changing_tests, interim_bucket, items_from, step_item, step_in, step_tests, step_of, step_from, outcome}
use Rattle.rules.specs.Results.{step_placing, step_bucket, step_from_result, step_result}
use Rattle.rules.specs.Answers.{stepped_means}
use Rattle.rules.specs.declared.Header.{Header}
use Rattle.rules.specs.declared.Slot.{Slot}
use Rattle.rules.specs.declared.Record.{Record}
use Rattle.rules.specs.declared.Placing.{Placing}
use Rattle.rules.specs.declared.Refusal.{Refusal}
use Rattle.rules.specs.declared.Refusal.TheVariants.{NotResizing, InterimEmpty, NoPlace}
use Rattle.std.specs.Prelude.{Ok, Err}
use Rattle.rules.specs.declared.SteppedFrom.{SteppedFrom}
use Rattle.rules.specs.contracts.Placing.{the_type as placing-type}
use Rattle.rules.proofs.Basics.Lists.{not_some}
use Rattle.rules.proofs.Calls.Meanings.{stepped-from-one}
use Rattle.reading.specs.Within.{SlotWithin, PlacingWithin}
use Rattle.reading.specs.Gates.{gate_of}
use Rattle.reading.specs.Gates.{Gate}
use Rattle.reading.proofs.Gated.{gate_open, gate_shut}
use Rattle.listing.specs.Listing.{listed_at, Run, Takes}
use Rattle.listing.specs.Promises.{StepTaken, StepTakenFrom}
use Rattle.listing.proofs.Runs.{then, front}
use Rattle.reading.specs.Within.{slot_found}
use Rattle.growing.specs.Interim.{FoundBy}
use Rattle.growing.specs.Steps.{RefusedStep, DidStep}
use Rattle.growing.proofs.Searches.{is_nowhere, placed-none, begins_there}
use Rattle.std.specs.Prelude.{Some}
use Rattle.growing.specs.declared.interim.Found.{Found}

-- ---- the item

pub item-some : (o : Option Slot) {x : Slot} → slot_found o ≡ Some x → o ≡ some x
item-some none e = absurd (let z : ◌≡◌ {A = ℕ} 0 1 = cc in omega arith)
item-some (some y) {x} e = let k : y ≡ x = cc in ap some k

some_first : {x : Slot} (l : List Slot) → head? l ≡ some x → empty l ≡ false
some_first [] e = not_some e
some_first (x ∷ l) e = refl

-- ---- the outcomes

module _ (t : Table) (h : Header) (b : ℕ) where
  pub step-resting : at_rest h.state ≡ true → refused NotResizing ≡ step_of t h b
  unfolding step_of step_tests
  step-resting e = rw e

  module _ (p : at_rest h.state ≡ false) where
    pub step-empty : empty (items_from t h b) ≡ true → refused InterimEmpty ≡ step_of t h b
    unfolding step_of step_tests
    step-empty e = rw (p, e)

    -- the search for a place begins at the bucket of the first item
    step_on : (x : Slot) → head? (items_from t h b) ≡ some x
        → (step_item t h (interim_bucket h.state x) ≡ step_item t h b)
        × (step_in t h (step_item t h (interim_bucket h.state x)) ≡ step_of t h b)
    unfolding step_of step_tests
    step_on x e =
        let same = begins_there t h b x p e in
        (sym same, rw (p, some_first (items_from t h b) e, same))

    pub did_on : {n : ℕ} (x : Slot) {l m : List ℕ} {r : SteppedFrom} → head? (items_from t h b) ≡ some x → n ≡ interim_bucket h.state x
        → DidStep t h (step_item t h n) (step_in t h (step_item t h n)) l r m → DidStep t h (step_item t h b) (step_of t h b) l r m
    did_on {n} x {l} {m} {r} e c d =
        let q = step_on x e in
        let a : DidStep t h (step_item t h (interim_bucket h.state x)) (step_in t h (step_item t h (interim_bucket h.state x))) l r m = rw c at d in
        subst (λ (o : Outcome). DidStep t h (step_item t h b) o l r m) q.1
        (subst (λ (i : Option Slot). DidStep t h i (step_in t h (step_item t h (interim_bucket h.state x))) l r m) q.0 a)

module _ (t : Table) (h : Header) where
  -- what the search found is the item that the step takes
  module _ (r : Found) where
    pub step_nowhere : (o : Option Slot) → FoundBy t h o r → OneOf (2 ∷ []) (tag_of placing-type r.placing) → refused NoPlace ≡ step_in t h o
    step_nowhere o k e = rw (placed-none t h r o k (is_nowhere r.placing e))

    pub step-within : (o : Option Slot) → FoundBy t h o r → PlacingWithin t r.placing
    unfolding FoundBy
    step-within none k = rw k tt
    step-within (some x) k = k.4

    pub step-somewhere : (o : Option Slot) (p : Placing) (y : Slot) → FoundBy t h o r → p ≡ r.placing → Takes t p y
        → (o ≡ some r.item) × (p ≡ placing t h (key_in t r.item)) × SlotWithin t r.item
    unfolding Takes FoundBy
    step-somewhere none p y k q e = absurd (rw (q, k) at e)
    step-somewhere (some x) p y k q e = rw k.0 (refl, q ∙ k.1, k.3)

  -- ---- what was done

  pub did_step_refuse : {r : Refusal} {s : SteppedFrom} {o : Outcome} (item : Option Slot) (l : List ℕ) → refused r ≡ o → RefusedStep r s
      → DidStep t h item o l s l
  did_step_refuse item l e a = rw (← e) (record { answer = a; list = refl })

  pub did_step : (item : Option Slot) (x : Slot) {key n₁ n₂ w bucket : ℕ} (l : List ℕ) {l₁ l₂ : List ℕ} {p : Placing} {r : Record}
      → item ≡ some x → key ≡ key_in t x → r ≡ record_in t x → p ≡ placing t h (key_in t x) → w ≡ token_of t x.bucket
      → bucket ≡ interim_bucket h.state x → 20 ≤ length l
      → Run n₁ l l₁ (placing_stores t h p key r) × (n₁ ≤ 9) → (n₂ ≡ n₁ + 1) × (l₂ ≡ listed_at l₁ n₁ (clear_stores h w x))
      → DidStep t h item (step_in t h item) l (record { stepped = record { change = Ok n₂; placing = p }; bucket = bucket }) l₂
  unfolding step_stores clear_stores
  did_step item x {key} {n₁} {n₂} {w} l {p = p} {r = r} i k v q u c long s₁ s₂ =
      let first = placing_stores t h p key r in
      let stores = first ++ clear_stores h w x in
      let same : stores ≡ step_stores t h x p = rw (← k, ← u, ← v) in
      let count : n₂ ≡ length stores = s₂.0 ∙ ap (λ z. z + 1) s₁.0.0 ∙ sym (length-append first (clear_stores h w x)) in
      let few : 2 * length stores ≤ length l = omega (arith, count, s₂.0, s₁.1) in
      let found : p ≡ step_placing t h (listed (step_stores t h x p)) item = rw i q in
      let counted = c ∙ ap (step_bucket h (listed (step_stores t h x p))) (sym i) in
      let listing : listed (step_stores t h x p) ≡ step_in t h item = rw (i, q) in
      rw (← listing)
      (record {
        answer = λ j. record { stepped = record { change = Ok ((count ∙ ap length same) j); placing = found j }; bucket = counted j };
        list = then l 0 first (clear_stores h w x) s₁.0.1 (s₁.0.0 ∙ sym (zero-add (length first))) s₂.1 ∙ front l stores few
            ∙ ap (λ z. written z l) same;
      })

-- ---- through the gate

module _ (t : Table) (l : List ℕ) (b : ℕ) where
  whole : {s : SteppedFrom} {m : List ℕ} → DidStep t (header_of t) (step_item t (header_of t) b) (outcome t (length l) (step_from b)) l s m
      → StepTakenFrom b t l s t m
  unfolding step_from_result
  whole d = record { answer = rw d.answer; table = refl; list = d.list }

  module _ {g : Gate} (e : g ≡ gate_of t (changing_tests t (length l))) where
    pub step_shut : {r : Refusal} {s : SteppedFrom} → g ≡ Err r → RefusedStep r s → StepTakenFrom b t l s t l
    unfolding outcome
    step_shut q a =
        whole (did_step_refuse t (header_of t) _ l (gate_shut t (changing_tests t (length l)) e refused (step_of t (header_of t) b) q) a)

    pub step_open : {h : Header} {s : SteppedFrom} {m : List ℕ} → g ≡ Ok h → h ≡ header_of t → DidStep t h (step_item t h b) (step_of t h b) l s m
        → StepTakenFrom b t l s t m
    unfolding outcome
    step_open {s = s} {m = m} q same d =
        whole (subst (λ (o : Outcome). DidStep t (header_of t) (step_item t (header_of t) b) o l s m)
        (gate_open t (changing_tests t (length l)) e refused (step_of t (header_of t) b) q) (rw same at d))

-- ---- from the first bucket on

pub step-whole : {t u : Table} {l m : List ℕ} {s : SteppedFrom} → StepTakenFrom 0 t l s u m → StepTaken t l s.stepped u m
unfolding step_result
step-whole {t} {l = l} {s = s} d =
    let same = stepped-from-one s (step_from_result t 0 l).0 d.answer in
    record { answer = ap (λ (x : SteppedFrom). stepped_means x.stepped) same; table = d.table; list = d.list }
