-- 20N + 2 stores are too few for a shrink: an example spends more.
-- Assumes nothing.
use Prim.Native.Nat.{ℕ, ◌<◌}
use mathlib.Core.Path.{◌≡◌, refl, sym}
use mathlib.Core.Bool.{Bool, true, false}
use mathlib.Core.List.Memᴰ.{head as here}
use mathlib.Core.List.Memᴰ.{tail as there}
use mathlib.Core.List.{List, [], ◌∷◌, ◌++◌, map}
use mathlib.Core.Logic.{inl, inr}
use native.Mathlib.Omega.{arith}
use lib.ListN.{length}
use borrow.Author.Tests.{leb-true}
use Rattle.rules.specs.Words.{Table}
use Rattle.rules.specs.Choice.{all}
use Rattle.rules.specs.Calls.{Call, query, insert, update, delete, begin, shrink, back, step_from, end, recover, list_long, changing_tests, outcome}
use Rattle.rules.specs.Results.{change_result}
use Rattle.rules.specs.Histories.{whole, after, after_all, Every, Whole, History, Accepted, OneResizing, TurnsBack, NoTurningBack}
use Rattle.rules.specs.Examples.{record_of}
use Rattle.rules.specs.ResizeSentences.{TwentyTooFew}
use Rattle.rules.specs.ResizeCases.{filled, calls, lent, lent_each, refused_back, costly}
use Rattle.rules.specs.declared.Refusal.TheVariants.{ShortList}
use Rattle.rules.proofs.Basics.Lists.{never}
use Rattle.rules.proofs.Calls.Checked.{checked_passed}
use Rattle.rules.proofs.Calls.MadeLists.{accepted-lists}

-- a back with too short a list is refused, and so turns nothing
short_back : (t : Table) (l : List ℕ) → length l < 20 → TurnsBack t (whole back l) → ⊥
unfolding outcome changing_tests list_long
short_back t l short turns =
    let lists = accepted-lists t l back turns.1 in
    let long = leb-true 20 (length l)
    (checked_passed _ lists.0 (changing_tests t (length l)) lists.1 (list_long (length l), ShortList) (there (here refl))) in
    omega arith

-- a call that neither ends nor turns back
abbrev goes_on : Call → Bool
goes_on begin = true
goes_on shrink = true
goes_on back = false
goes_on (step_from b) = true
goes_on end = false
goes_on (query key) = true
goes_on (insert key r) = true
goes_on (update key r) = true
goes_on (delete key) = true
goes_on recover = true

abbrev Onward : List Call → Type 0
Onward qs = all (map goes_on qs) ≡ true

both_go : (b : Bool) (bs : List Bool) → all (b ∷ bs) ≡ true → (b ≡ true) × (all bs ≡ true)
both_go true bs e = (refl, e)
both_go false bs e = never e refl

module _ (q : Call) (qs : List Call) (o : Onward (q ∷ qs)) where
  no_end : q ≡ end → ⊥
  no_end e = never (rw e at (both_go (goes_on q) (map goes_on qs) o).0) refl

  no_back : q ≡ back → ⊥
  no_back e = never (rw e at (both_go (goes_on q) (map goes_on qs) o).0) refl

  then_on : Onward qs
  then_on = (both_go (goes_on q) (map goes_on qs) o).1

-- and then an end that is accepted: one whole shrink
ends_once : (qs : List Call) (t : Table) → Onward qs → Accepted (change_result (after_all t (lent_each qs)) lent end).0
    → OneResizing t (lent_each (qs ++ (end ∷ [])))
ends_once [] t o a = inl ((refl, a), refl)
ends_once (q ∷ qs) t o a = inr (λ e. no_end q qs o e.0, ends_once qs (after t (whole q lent)) (then_on q qs o) a)

back-ends-nothing : back ≡ end → ⊥
back-ends-nothing e = let z : ◌≡◌ {A = ℕ} 0 1 = cc in omega arith

not_turned : (qs : List Call) (t : Table) → Onward qs → NoTurningBack t (lent_each (qs ++ (end ∷ [])))
not_turned [] t o = ((λ e. back-ends-nothing (sym e.0)), tt)
not_turned (q ∷ qs) t o = (λ e. no_back q qs o e.0, not_turned qs (after t (whole q lent)) (then_on q qs o))

made-whole : (qs : List Call) → Every Whole (lent_each qs)
made-whole [] = tt
made-whole (q ∷ qs) = (tt, made-whole qs)

abbrev table : Table
table = filled (λ (key : ℕ). record_of 10 20)

pub twenty_too_few : TwentyTooFew
twenty_too_few bound =
    let es = refused_back ∷ lent_each (calls ++ (end ∷ [])) in
    let begun = after table (whole shrink lent) in
    let behind = after begun refused_back in
    let history : History Whole table (whole shrink lent ∷ es) (after_all table (whole shrink lent ∷ es)) =
    record { permitted = (tt, (tt, made-whole (calls ++ (end ∷ [])))); leads = refl } in
    let one : OneResizing begun es = inr (λ e. back-ends-nothing e.0, ends_once calls behind refl costly.3) in
    let onward : NoTurningBack begun es = (short_back begun [] (omega arith), not_turned calls behind refl) in
    let few = bound table (after_all table (whole shrink lent ∷ es)) lent es costly.2 one onward history in
    omega (arith, costly.1, rw costly.0 at few)
