-- `overlaying::parts::newer_part` meets its contract.
-- Assumes nothing.
use Rattle.querying.proofs.Standings.{is_absent}
use Rattle.overlaying.proofs.Memory.{three_fit, over_there, over-behind}
use borrow.Author.Rules.{rules}
use Rattle.overlaying.proofs.parts.newer_part.Goals as goal

pub key_word-requires : goal.key_word-requires
key_word-requires c = let y = rw c.in-Stands.is at c.requires.0 in search rules

pub words_from-requires : goal.words_from-requires
words_from-requires c =
    three_fit c.args.newer.now _
    (rw c.in-Stands.is at c.requires.0) c.key_word.ensures

pub returns-in-Stands : goal.returns-in-Stands
returns-in-Stands c = over_there _ _ _ _ c.in-Stands.is c.key_word.ensures c.words_from.ensures

pub returns-in-Absent : goal.returns-in-Absent
returns-in-Absent c = over-behind _ _ _ _ (is_absent _ c.in-Absent.in-Absent-own.keys2) c.part_in_older.ensures
