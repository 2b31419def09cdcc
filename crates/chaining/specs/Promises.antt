-- What the chain promises: the answer and the lent words that document 02 fixes, on every table, address, depth and number of lent words.
-- The table is only read, and stays: u is the table at exit, m the lent words.
-- Assumes nothing.
use Rattle.std.specs.Prelude.{ℕ, ◌≡◌, List}
use Rattle.rules.specs.Words.{Table}
use Rattle.rules.specs.Answers.{Meaning, chain_means}
use Rattle.rules.specs.Chains.{chain_result}
use Rattle.rules.specs.Answers.{Chain}

pub record ChainedBy (t : Table) (address depth : ℕ) (l : List ℕ) (told : Meaning) (u : Table) (m : List ℕ) : Type 0 where
  pub answer : told ≡ chain_means (chain_result t address depth l).0
  pub table : u ≡ t
  pub records : m ≡ (chain_result t address depth l).1

abbrev pub Chained : Table → ℕ → ℕ → List ℕ → Chain → Table → List ℕ → Type 0
Chained t address depth l c u m = ChainedBy t address depth l (chain_means c) u m
