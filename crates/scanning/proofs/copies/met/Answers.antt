-- `scanning::copies::met` meets its contract.
-- Assumes nothing.
use Rattle.scanning.proofs.copies.met.Goals as goal

pub returns-in-Clear : goal.returns-in-Clear
returns-in-Clear c = rw c.in-Clear.is c.pair.ensures
