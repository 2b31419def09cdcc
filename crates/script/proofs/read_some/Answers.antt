-- `script::read_some` meets its contract.
-- Assumes nothing.
use Rattle.script.proofs.Parts.{read_known, read_failed, read_taken}
use mathlib.Core.Path.{sym, ◌∙◌}
use Rattle.script.proofs.read_some.Goals as goal

pub returns-then-known : goal.returns-then-known
returns-then-known c = read_known _ _ (sym c.known.ensures ∙ c.if-known.true)

pub returns-in-Err : goal.returns-in-Err
returns-in-Err c = read_failed _ _ (sym c.known.ensures ∙ c.if-known.false)

pub returns-in-Ok : goal.returns-in-Ok
returns-in-Ok c = read_taken c.in-Ok.n _ c.in-Ok.ensures.bound.0 (sym c.known.ensures ∙ c.if-known.false) c.take_read.ensures
