-- `converting::convert` meets its contract.
-- Assumes nothing.
use Rattle.reading.proofs.Gated.{passed_on, open_headed}
use Rattle.converting.proofs.Converting.{header_refused, converts}
use Rattle.converting.proofs.convert.Goals as goal

pub returns-in_err-h : goal.returns-in_err-h
returns-in_err-h c = rw (passed_on c.from_residual.ensures.1) (converts _ _ _ _ (header_refused _ _ c.header_gate.ensures.0 c.in_err-h.was))

pub convert_at-requires : goal.convert_at-requires
convert_at-requires c = open_headed _ _ c.header_gate.ensures.1 c.in_ok-h.was

pub returns : goal.returns
returns c = converts _ _ _ _ c.convert_at.ensures
