-- What the inner functions answer.
-- Assumes nothing.
use Rattle.std.specs.Prelude.{ℕ, ◌^◌, List, [], ◌∷◌, map, ltb, Option as Answer, Some, None}
use Rattle.std.proofs.Math.Option.{Option, none, some}
use Rattle.rules.specs.Choice.{all, given}
use Rattle.lines.specs.Lines.{is_digit, value_from}

-- digits, with zeros before them or not, read after others that gave v
unfoldable pub digits_from : ℕ → List ℕ → Option ℕ
digits_from v ds = given (all (all (map is_digit ds) ∷ ltb (value_from v ds) (2 ^ 64) ∷ [])) (value_from v ds)

-- a decimal that is found, or none, as the code answers it
abbrev pub decimal_found : Option ℕ → Answer ℕ
decimal_found (some v) = Some v
decimal_found none = None
