-- From what a call's inner function did to the call's promise; and no second answer or list keeps the promise.
-- Assumes nothing.
use Prim.Native.Nat.{ℕ, ◌≤◌}
use mathlib.Core.Path.{◌≡◌, refl, sym, ap, ◌∙◌}
use mathlib.Core.List.Memᴰ.{head as here}
use mathlib.Core.List.Memᴰ.{tail as there}
use mathlib.Core.List.{List}
use borrow.Author.Tests.{leb-true}
use lib.ListN.{length}
use Rattle.rules.specs.Words.{Table, header_of}
use Rattle.rules.specs.Stores.{Store}
use Rattle.rules.specs.Calls.{list_long, changing_tests, recover_tests, Outcome, refused, listed, tests_of, act_of, outcome}
use Rattle.rules.specs.Calls.{Call}
use Rattle.rules.specs.Results.{change_result}
use Rattle.rules.specs.declared.Header.{Header}
use Rattle.rules.specs.declared.Refusal.{Refusal}
use Rattle.rules.specs.Answers.{Change}
use Rattle.std.specs.Prelude.{Ok, Err}
use Rattle.rules.specs.declared.Stepped.{Stepped}
use Rattle.rules.specs.declared.SteppedFrom.{SteppedFrom}
use Rattle.rules.proofs.Calls.Meanings.{change-one, stepped-one, stepped-from-one}
use Rattle.reading.specs.Gates.{gate_of}
use Rattle.reading.specs.Gates.{Gate}
use Rattle.reading.proofs.Gated.{gate_open, gate_shut, gate_passed}
use Rattle.listing.specs.Listing.{Room, Run}
use Rattle.listing.specs.Promises.{Changed, StepTaken, StepTakenFrom, Did}
use Rattle.listing.proofs.Runs.{front}

-- ---- what was done

pub did_list : {n : ℕ} {l m : List ℕ} {xs : List Store} → Run n l m xs → Room l (length xs) → Did (listed xs) l (Ok n) m
did_list {l = l} {xs = xs} r room = record { answer = ap Ok r.0; list = r.1 ∙ front l xs room }

pub did_refuse : (r : Refusal) (l : List ℕ) → Did (refused r) l (Err r) l
did_refuse r l = record { answer = refl; list = refl }

pub did_as : {o p : Outcome} {l m : List ℕ} {r : Change} → o ≡ p → Did o l r m → Did p l r m
did_as e d = rw (← e) d

-- ---- through the gate

module _ (q : Call) (t : Table) (l : List ℕ) where
  did_changed : {r : Change} {m : List ℕ} → Did (outcome t (length l) q) l r m → Changed q t l r t m
  unfolding change_result
  did_changed d = record { answer = rw d.answer; table = refl; list = d.list }

  module _ {g : Gate} (e : g ≡ gate_of t (tests_of t (length l) q)) where
    pub changed_shut : {r : Refusal} → g ≡ Err r → Changed q t l (Err r) t l
    unfolding outcome
    changed_shut {r} s = did_changed (did_as (gate_shut t (tests_of t (length l) q) e refused (act_of t (header_of t) q) s) (did_refuse r l))

    pub changed_open : {h : Header} {r : Change} {m : List ℕ} → g ≡ Ok h → h ≡ header_of t → Did (act_of t h q) l r m → Changed q t l r t m
    unfolding outcome
    changed_open s same d = did_changed
        (did_as (ap (λ (z : Header). act_of t z q) same ∙ gate_open t (tests_of t (length l) q) e refused (act_of t (header_of t) q) s) d)

-- an open gate of a changing call, or of recovery, was handed a list of 20 words or more
module _ (t : Table) (n : ℕ) {g : Gate} {h : Header} where
  pub change-long : g ≡ gate_of t (changing_tests t n) → g ≡ Ok h → 20 ≤ n
  unfolding changing_tests list_long
  change-long e s = leb-true 20 n (gate_passed t (changing_tests t n) e s _ (there (here refl)))

  pub recover-long : g ≡ gate_of t (recover_tests t n) → g ≡ Ok h → 20 ≤ n
  unfolding recover_tests list_long
  recover-long e s = leb-true 20 n (gate_passed t (recover_tests t n) e s _ (there (here refl)))

-- ---- no second answer, no second table, no second list

pub changed_one : (q : Call) (t : Table) (l : List ℕ) (r s : Change) (u v : Table) (m n : List ℕ) → Changed q t l r u m → Changed q t l s v n
    → (r ≡ s) × (u ≡ v) × (m ≡ n)
changed_one q t l r s u v m n a b = (change-one r s (a.answer ∙ sym b.answer), a.table ∙ sym b.table, a.list ∙ sym b.list)

pub step-taken-one : (t : Table) (l : List ℕ) (r s : Stepped) (u v : Table) (m n : List ℕ) → StepTaken t l r u m → StepTaken t l s v n
    → (r ≡ s) × (u ≡ v) × (m ≡ n)
step-taken-one t l r s u v m n a b = (stepped-one r s (a.answer ∙ sym b.answer), a.table ∙ sym b.table, a.list ∙ sym b.list)

pub step-taken-from-one : (b : ℕ) (t : Table) (l : List ℕ) (r s : SteppedFrom) (u v : Table) (m n : List ℕ) → StepTakenFrom b t l r u m
    → StepTakenFrom b t l s v n → (r ≡ s) × (u ≡ v) × (m ≡ n)
step-taken-from-one b t l r s u v m n a c =
    (stepped-from-one r s (a.answer ∙ sym c.answer), a.table ∙ sym c.table, a.list ∙ sym c.list)
