-- `script::take_read` meets its contract.
-- Assumes nothing.
use mathlib.Core.Path.{refl}
use Rattle.script.specs.declared.Outcome.TheVariants.{Ended, Unwritten}
use Rattle.script.proofs.Parts.{read-nothing, went_on}
use borrow.Author.Rules.{rules}
use Rattle.script.proofs.take_read.Goals as goal

pub returns-then-finish : goal.returns-then-finish
returns-then-finish c = read-nothing Ended refl refl refl _ _ (search rules)

pub returns-else-finish : goal.returns-else-finish
returns-else-finish c = read-nothing Unwritten refl refl refl _ _ (search rules)

pub returns : goal.returns
returns c = went_on c.take_part.ensures (search rules)
