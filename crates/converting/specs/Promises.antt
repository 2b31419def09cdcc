-- What convert promises on every input: its answer, told by the documents' number and the key, and both tables at exit.
-- Here t is the source and s the second table at entry, u the source and v the second table at exit.
-- Assumes nothing.
use Rattle.std.specs.Prelude.{◌≡◌}
use Rattle.rules.specs.Words.{Table}
use Rattle.rules.specs.Answers.{Meaning, conversion_means}
use Rattle.rules.specs.Conversions.{convert_result}
use Rattle.rules.specs.Answers.{Conversion}

-- the number and the key that are answered are the rules', and so is the second table; the source is only read, and stays
pub record ConvertsBy (t s : Table) (told : Meaning) (u v : Table) : Type 0 where
  pub answer : told ≡ conversion_means (convert_result t s).0
  pub source : u ≡ t
  pub second : v ≡ (convert_result t s).1

-- the answer itself
pub record Converts (t s : Table) (r : Conversion) (u v : Table) : Type 0 where
  pub answer : r ≡ (convert_result t s).0
  pub source : u ≡ t
  pub second : v ≡ (convert_result t s).1
