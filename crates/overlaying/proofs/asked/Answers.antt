-- `overlaying::asked` meets its contract.
-- Assumes nothing.
use mathlib.Core.Path.{◌∙◌}
use Rattle.overlaying.proofs.Gated.{newer_shut, older_shut, both_open}
use Rattle.overlaying.proofs.Asking.{asks, asks-behind}
use Rattle.overlaying.proofs.asked.Goals as goal

pub returns-in-Err : goal.returns-in-Err
returns-in-Err c = asks _ _ _ (c.refused_by.ensures ∙ newer_shut _ _ _ c.query_gate.ensures.0 c.in-Err.is)

pub returns-in-Err-query_gate : goal.returns-in-Err-query_gate
returns-in-Err-query_gate c =
    asks _ _ _
    (c.refused_by-in-Err-query_gate.ensures ∙ older_shut _ _ _ c.query_gate.ensures.0 c.in-Ok.is c.query_gate-2.ensures.0 c.in-Err-query_gate.is)

pub returns : goal.returns
returns c =
    asks-behind _ _ _ _ _ c.in_either.ensures
    (both_open _ _ _ c.query_gate.ensures.0 c.in-Ok.is c.query_gate-2.ensures.0 c.in-Ok-query_gate.is c.in-Ok.ensures.1.0 c.in-Ok-query_gate.ensures.1.0)
