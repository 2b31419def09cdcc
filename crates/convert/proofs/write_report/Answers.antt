-- `convert::write_report` meets its contract.
-- Assumes nothing.
use Rattle.saying.proofs.Puts.{front-text}
use Rattle.convert.proofs.write_report.Goals as goal

pub returns : goal.returns
returns c = front-text c.report-n.ensures.put
