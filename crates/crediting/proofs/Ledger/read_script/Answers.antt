-- `crediting::Ledger::read_script` meets its contract.
-- Assumes nothing.
use Rattle.std.proofs.Common.{rules}
use Rattle.crediting.specs.Books.{script_read}
use Rattle.crediting.proofs.Ledger.read_script.Goals as goal

pub returns-in-Bad : goal.returns-in-Bad
unfolding script_read
returns-in-Bad c = let d = c.spoil.ensures c.args.room.now in search rules
