-- Document 02, request i), "Reloaded code over a shipped build": what asking two tables answers, on every input. Both are only read. t is the newer
-- table, u the older.
-- Assumes nothing.
use Rattle.std.specs.Prelude.{ℕ, ◌+◌, cond, List, take, drop, eqb}
use Rattle.rules.specs.Words.{Table, header_of, key_word}
use Rattle.rules.specs.Places.{lookup}
use Rattle.rules.specs.Calls.{checked, query_tests}
use Rattle.rules.specs.declared.Lookup.{Lookup}
use Rattle.rules.specs.declared.Lookup.TheVariants.{Stands, Absent}
use Rattle.rules.specs.declared.Refusal.{Refusal}
use Rattle.rules.specs.declared.Refusal.TheVariants.{KeyAbsent}
use Rattle.rules.specs.Answers.{Asked, hits, lacks, name_of}
use Rattle.rules.specs.declared.Side.TheVariants.{Newer, Older}
use Rattle.std.specs.Prelude.{Ok, Err}

-- the table of a name
abbrev pub named : {A : Type 0} → ℕ → A → A → A
named name t u = cond (eqb name 0) t u

-- "5 when neither has the key"; "with 5 the older". In the newer table n buckets were looked at
abbrev pub in_older : ℕ → Lookup → Asked
in_older n (Stands x m) = hits Older (key_word x) (n + m)
in_older n (Absent m) = lacks Older KeyAbsent (n + m)

-- "Ask both: a key in the newer table hides the same key in the older."
abbrev pub in_either : Lookup → Lookup → Asked
in_either (Stands x n) behind = hits Newer (key_word x) n
in_either (Absent n) behind = in_older n behind

-- "Refusals 1 and 3 are tested on both tables before any lookup, both of the newer first"; "With 1 or 3 name that table, count 0"
unfoldable pub asked_result : Table → Table → ℕ → Asked
asked_result t u key =
    checked (λ (r : Refusal). lacks Newer r 0) (query_tests t)
    (checked (λ (r : Refusal). lacks Older r 0) (query_tests u) (in_either (lookup t (header_of t) key) (lookup u (header_of u) key)))

-- "The answer is the part of whichever table holds the key, three words of that table and no copy; an empty part with a refusal": which table, the
-- word where the part begins, and its words. An empty part begins at word 0
pub record Part : Type 0 where
  pub name : ℕ
  pub start : ℕ
  pub size : ℕ

abbrev pub part_of : Asked → Part
part_of (Ok x) = record { name = name_of x.side; start = x.word; size = 3 }
part_of (Err x) = record { name = name_of x.side; start = 0; size = 0 }

unfoldable pub part_result : Table → Table → ℕ → Part
part_result t u key = part_of (asked_result t u key)

-- the words of a part
unfoldable pub words_of : Part → Table → Table → List ℕ
words_of p t u = take p.size (drop p.start (named p.name t u))
