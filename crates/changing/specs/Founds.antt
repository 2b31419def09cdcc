-- Whether a lookup has found its key.
-- Assumes nothing.
use Rattle.std.specs.Prelude.{Bool, true, false}
use Rattle.rules.specs.declared.Lookup.{Lookup}
use Rattle.rules.specs.declared.Lookup.TheVariants.{Stands, Absent}

abbrev pub has_found : Lookup → Bool
has_found (Stands x n) = true
has_found (Absent n) = false
