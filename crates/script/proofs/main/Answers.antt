-- `script::main` meets its contract: its room is enough for the largest table.
-- Assumes nothing.
use Rattle.rules.specs.Words.{words_for}
use borrow.Author.Rules.{rules}
use Rattle.script.proofs.main.Goals as goal

pub read_all-last-requires : goal.read_all-last-requires
unfolding words_for
read_all-last-requires c = search rules
