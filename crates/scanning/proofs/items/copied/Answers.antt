-- `scanning::items::copied` meets its contract.
-- Assumes nothing.
use mathlib.Core.Path.{sym, ◌∙◌}
use Rattle.scanning.proofs.items.copied.Goals as goal

pub returns-then-not-stands : goal.returns-then-not-stands
returns-then-not-stands c = rw (sym c.stands.ensures ∙ c.if-not-stands.true)

pub returns : goal.returns
returns c = rw (sym c.stands.ensures ∙ c.if-not-stands.false) c.met.ensures
