-- What the two calls that write the table promise on every input: their answer, told by document 01's number, and the table
-- at exit. "Creation is also the only call that writes the table besides the making of stores."
-- Here t is the table at entry and u the table at exit; r is the answer.
-- Assumes nothing.
use Rattle.std.specs.Prelude.{ℕ, ◌≡◌, List}
use Rattle.rules.specs.Words.{Table}
use Rattle.rules.specs.Answers.{Meaning, verdict_means}
use Rattle.rules.specs.Results.{create_result, make_result}
use Rattle.rules.specs.Answers.{Verdict}

-- the number that is answered is the rules', and so is the table
pub record IsResult (result : Verdict × Table) (told : Meaning) (u : Table) : Type 0 where
  pub answer : told ≡ verdict_means result.0
  pub table : u ≡ result.1

-- create
abbrev pub CreatedBy : Table → ℕ → ℕ → ℕ → ℕ → ℕ → Meaning → Table → Type 0
CreatedBy t form c k mul1 mul2 told u = IsResult (create_result t form c k mul1 mul2) told u

unfoldable pub Created : Table → ℕ → ℕ → ℕ → ℕ → ℕ → Verdict → Table → Type 0
Created t form c k mul1 mul2 r u = CreatedBy t form c k mul1 mul2 (verdict_means r) u

-- make, of the first n pairs of the list l, which is only read, and stays: m is the list at exit
abbrev pub MadeBy : Table → List ℕ → ℕ → Meaning → Table → List ℕ → Type 0
MadeBy t l n told u m = IsResult (make_result t l n) told u × (m ≡ l)

unfoldable pub Made : Table → List ℕ → ℕ → Verdict → Table → List ℕ → Type 0
Made t l n r u m = MadeBy t l n (verdict_means r) u m
