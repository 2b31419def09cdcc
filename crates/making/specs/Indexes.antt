-- The test that make does before its first store.
-- Assumes nothing.
use Rattle.std.specs.Prelude.{ℕ, Bool, List, map, ltb}
use Rattle.rules.specs.Choice.{all}
use Rattle.rules.specs.Stores.{Store}

-- no index of some stores is "outside the table", which has that many words
unfoldable pub inside : ℕ → List Store → Bool
inside size stores = all (map (λ (x : Store). ltb x.0 size) stores)
