-- `overlaying::parts::older_part` meets its contract.
-- Assumes nothing.
use Rattle.querying.proofs.Standings.{is_absent}
use Rattle.overlaying.proofs.Memory.{three_fit, found_there, found_nothing}
use borrow.Author.Rules.{rules}
use Rattle.overlaying.proofs.parts.older_part.Goals as goal

pub key_word-requires : goal.key_word-requires
key_word-requires c = let y = rw c.in-Stands.is at c.requires in search rules

pub words_from-requires : goal.words_from-requires
words_from-requires c =
    three_fit c.args.older.now _
    (rw c.in-Stands.is at c.requires) c.key_word.ensures

pub returns-in-Stands : goal.returns-in-Stands
returns-in-Stands c = found_there _ _ c.in-Stands.is c.key_word.ensures c.words_from.ensures

pub returns-in-Absent : goal.returns-in-Absent
returns-in-Absent c = found_nothing _ _ (is_absent _ c.in-Absent.in-Absent-own.keys2) c.words_from-in-Absent.ensures
