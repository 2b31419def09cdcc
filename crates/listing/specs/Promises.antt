-- What a changing call or recovery promises: the number and stores that document 01 fixes, and what the list holds at exit, on
-- every table, list and key. The table is only read, and stays: u is the table at exit.
-- Assumes nothing.
use Rattle.std.specs.Prelude.{ℕ, ◌≡◌, List}
use Rattle.rules.specs.Words.{Table}
use Rattle.rules.specs.Answers.{Meaning, change_means, stepped_means, gone_on_means, stepped_from_means}
use Rattle.rules.specs.Calls.{Outcome}
use Rattle.rules.specs.Calls.{Call}
use Rattle.rules.specs.Results.{change_of, list_after, change_result, step_from_result, step_result}
use Rattle.rules.specs.Answers.{Change}
use Rattle.rules.specs.declared.Stepped.{Stepped}
use Rattle.rules.specs.declared.SteppedFrom.{SteppedFrom}

-- insert, update, delete, begin, end, recover: call q on table t with list l answers a number and its values, and leaves table u and
-- list m
pub record ChangedBy (q : Call) (t : Table) (l : List ℕ) (told : Meaning) (u : Table) (m : List ℕ) : Type 0 where
  pub answer : told ≡ change_means (change_result t l q).0
  pub table : u ≡ t
  pub list : m ≡ (change_result t l q).1

abbrev pub Changed : Call → Table → List ℕ → Change → Table → List ℕ → Type 0
Changed q t l r u m = ChangedBy q t l (change_means r) u m

-- step: the same, with the placing in its answer
pub record StepTaken (t : Table) (l : List ℕ) (r : Stepped) (u : Table) (m : List ℕ) : Type 0 where
  pub answer : stepped_means r ≡ stepped_means (step_result t l).0
  pub table : u ≡ t
  pub list : m ≡ (step_result t l).1

-- step_from: the same from bucket b on, with the bucket to go on from; and what is left of it where the placing is not told
pub record StepTakenFrom (b : ℕ) (t : Table) (l : List ℕ) (r : SteppedFrom) (u : Table) (m : List ℕ) : Type 0 where
  pub answer : stepped_from_means r ≡ stepped_from_means (step_from_result t b l).0
  pub table : u ≡ t
  pub list : m ≡ (step_from_result t b l).1

pub record WentOnBy (b : ℕ) (t : Table) (l : List ℕ) (told : Meaning) (u : Table) (m : List ℕ) : Type 0 where
  pub answer : told ≡ gone_on_means (step_from_result t b l).0
  pub table : u ≡ t
  pub list : m ≡ (step_from_result t b l).1

-- what the calls' own inner functions promise, behind the first tests: the answer and list of an outcome
pub record Did (o : Outcome) (l : List ℕ) (r : Change) (m : List ℕ) : Type 0 where
  pub answer : r ≡ change_of o
  pub list : m ≡ list_after o l
