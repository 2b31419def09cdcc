-- `ledger::read_some` meets its contract.
-- Assumes nothing.
use Rattle.std.proofs.Common.{sym, ◌∙◌}
use Rattle.running.proofs.Inputs.{read_known, read_failed, read-ended, read_taken}
use Rattle.ledger.specs.Parts.{known_in}
use Rattle.ledger.proofs.Parts.{takes}
use Rattle.ledger.proofs.read_some.Goals as goal

pub returns-then-is_known : goal.returns-then-is_known
returns-then-is_known c = read_known takes known_in (sym c.is_known.ensures ∙ c.if-is_known.true)

pub returns-in_default : goal.returns-in_default
returns-in_default c = read_failed takes known_in (sym c.is_known.ensures ∙ c.if-is_known.false)

pub returns-then-n-eq0 : goal.returns-then-n-eq0
returns-then-n-eq0 c = read-ended takes known_in (sym c.is_known.ensures ∙ c.if-is_known.false)

pub returns : goal.returns
returns c =
    read_taken takes known_in (sym c.is_known.ensures ∙ c.if-is_known.false) c.in-Ok.n c.if-n-eq0.false c.in-Ok.ensures.bound.0
    c.take_part.ensures
