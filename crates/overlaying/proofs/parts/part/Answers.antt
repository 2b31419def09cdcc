-- `overlaying::parts::part` meets its contract.
-- Assumes nothing.
use Rattle.rules.specs.declared.Side.TheVariants.{Newer, Older}
use Rattle.overlaying.proofs.Gated.{newer_shut, older_shut, both_open}
use Rattle.overlaying.proofs.Memory.{part_shut, part_open}
use Rattle.overlaying.proofs.parts.part.Goals as goal

pub returns-in_default : goal.returns-in_default
returns-in_default c = part_shut _ _ _ Newer (newer_shut _ _ _ c.query_gate.ensures.0 c.in_default.is) c.words_from.ensures

pub returns-in_default-query_gate : goal.returns-in_default-query_gate
returns-in_default-query_gate c =
    part_shut _ _ _ Older
    (older_shut _ _ _ c.query_gate.ensures.0 c.in-Ok.is c.query_gate-2.ensures.0 c.in_default-query_gate.is) c.words_from-in_default-query_gate.ensures

pub returns : goal.returns
returns c =
    part_open _ _ _ _ _
    (both_open _ _ _ c.query_gate.ensures.0 c.in-Ok.is c.query_gate-2.ensures.0 c.in-Ok-query_gate.is c.in-Ok.ensures.1.0 c.in-Ok-query_gate.ensures.1.0)
    c.part_in_either.ensures
