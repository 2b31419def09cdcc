-- What the code asks of a level: that its words lie in the table.
-- Assumes nothing.
use Rattle.std.specs.Prelude.{◌+◌, ◌*◌, ◌≤◌, length}
use Rattle.rules.specs.Words.{Table, size_of}
use Rattle.rules.specs.declared.Level.{Level}

-- all the words of a level of M buckets, whose last bucket is 2M − 2
abbrev pub LevelWithin : Table → Level → Type 0
LevelWithin t l = (l.exponent ≤ 20) × (9 + 13 * (2 * size_of l) ≤ length t + 13)
