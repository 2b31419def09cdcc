-- `ledger::write_report` meets its contract.
-- Assumes nothing.
use Rattle.ledger.proofs.Parts.{report_fronted}
use Rattle.ledger.proofs.write_report.Goals as goal

pub returns : goal.returns
returns c = report_fronted c.args.posting.now _ c.end.ensures c.report-n.ensures
