-- `changing::look_by` meets its contract.
-- Assumes nothing.
use mathlib.Core.Path.{ap, ◌∙◌}
use Rattle.rules.proofs.Calls.Meanings.{lookup-told_by}
use Rattle.changing.specs.Founds.{has_found}
use Rattle.changing.proofs.look_by.Goals as goal

pub lookup_with-found-requires : goal.lookup_with-found-requires
lookup_with-found-requires g c = (c.requires.0, c.hashes-hashes.ensures, c.requires.1)

pub returns : goal.returns
returns g c = (c.hashes-hashes.ensures, c.has_found.ensures ∙ ap has_found (lookup-told_by c.lookup_with-found.ensures.0))
