-- The figures that document 01 gives beside its rules.
-- Assumes nothing.
use mathlib.Core.Path.{◌≡◌, refl}
use Rattle.rules.specs.Words.{words_for}

-- "48 for c = 1, 100 for c = 2, 6,652 for c = 8"
pub sizes : (words_for 1 ≡ 48) × (words_for 2 ≡ 100) × (words_for 8 ≡ 6652)
unfolding words_for
sizes = (refl, refl, refl)
