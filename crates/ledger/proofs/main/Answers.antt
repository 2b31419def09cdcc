-- `ledger::main` meets its contract.
-- Assumes nothing.
use Rattle.rules.specs.Words.{words_for}
use borrow.Author.Rules.{rules}
use Rattle.ledger.proofs.main.Goals as goal

pub read_all-last-requires : goal.read_all-last-requires
unfolding words_for
read_all-last-requires c = search rules
