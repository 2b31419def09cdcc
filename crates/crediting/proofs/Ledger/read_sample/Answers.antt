-- `crediting::Ledger::read_sample` meets its contract.
-- Assumes nothing.
use Rattle.std.proofs.Common.{rules}
use Rattle.crediting.specs.Books.{sample_read}
use Rattle.crediting.proofs.Ledger.read_sample.Goals as goal

pub returns-in_default : goal.returns-in_default
unfolding sample_read
returns-in_default c = let d = c.spoil.ensures c.args.room.now in search rules
