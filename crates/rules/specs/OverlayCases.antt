-- Document 02, request i): cases of asking two tables as one table under one statement, computed from the rules. Each row holds what the rules compute
-- and what the request's sentences ask for: the number; then the table's name, the buckets looked at, the word where the part begins, and the part.
--
-- Tables and rows are those of `Examples`: c = 2, k = 1, made as a caller makes them; the top is buckets 1 and 2, the bottom bucket 0. Odd keys have
-- bucket 2 and even keys bucket 1, and behind it the bottom: so a query of one of these tables that does not find its key looks at two buckets.
-- Assumes nothing.
use Rattle.std.specs.Prelude.{ℕ, ◌≡◌, refl, List, [], ◌∷◌, ◌++◌, map, replicate, set}
use Rattle.rules.specs.Words.{Table}
use Rattle.rules.specs.Answers.{asked_means}
use Rattle.rules.specs.Calls.{insert, update, delete, begin, shrink, shrink_tests, shrink_of}
use Rattle.rules.specs.Results.{create_result}
use Rattle.rules.specs.Overlays.{asked_result, part_result, words_of}
use Rattle.rules.specs.declared.Record.{Record}
use Rattle.rules.specs.Examples.{Shown, tells, Row, row, opened, made_all, inserted, record_of, usual, after_e1, after_e1_in, before_e8, before_e8_in, before_e9}

-- the answer of both calls
abbrev pub asks : Table → Table → ℕ → Shown
asks t u key =
    let m = asked_means (asked_result t u key) in
    let p = part_result t u key in
    tells m.number (m.values ++ (p.start ∷ words_of p t u))

-- a part of three words in the table of that name
abbrev pub finds : ℕ → ℕ → ℕ → ℕ → Record → Shown
finds name count start key r = tells 0 (name ∷ count ∷ start ∷ key ∷ r.function ∷ r.place ∷ [])

abbrev pub refuses : ℕ → ℕ → ℕ → Shown
refuses number name count = tells number (name ∷ count ∷ 0 ∷ [])

-- a table with another c, another form and other multipliers, which has key 3 in bucket 1, its one top place; bucket 0 is the bottom
unfoldable pub small : (ℕ → Record) → Table
small r = inserted r (create_result (replicate 48 7) 2 1 1 1 1).1 (3 ∷ [])

abbrev pub grown : (ℕ → Record) → Table
grown r = made_all (before_e8 r) begin

-- one that shrinks to k = 1: the top is buckets 1 and 2 again, the bottom bucket 0, and the interim level, buckets 3 to 6, has keys 1 and 2 in buckets
-- 4 and 5
unfoldable pub shrunk : (ℕ → Record) → Table
shrunk r = made_all (inserted r (create_result (replicate 100 7) 1 2 2 4294967297 12884901889).1 (1 ∷ 2 ∷ [])) shrink

-- a header and a flag that are refused
abbrev pub badly : Table → Table
badly t = set t 0 3

abbrev pub flagged : Table → Table
flagged t = set t 5 2

unfoldable pub answers : (ℕ → Record) → List Row
answers r =
    -- "a key in the newer table hides the same key in the older": key 1, in the newer alone, in both, and the other way round
    row 1 (asks after_e1 usual 1) (finds 0 1 36 1 (record_of 10 20))
    ∷ row 2 (asks after_e1 (before_e8 r) 1) (finds 0 1 36 1 (record_of 10 20))
    ∷ row 3 (asks (before_e8 r) after_e1 1) (finds 0 1 36 1 (r 1))
    -- "the part of whichever table holds the key": in the older, with the newer's two buckets before its own
    ∷ row 4 (asks usual after_e1 1) (finds 1 3 36 1 (record_of 10 20))
    ∷ row 5 (asks after_e1 (before_e8 r) 3) (finds 1 3 39 3 (r 3))
    ∷ row 6 (asks after_e1 (before_e8 r) 15) (finds 1 4 19 15 (r 15))
    -- what a delete leaves of the newer is no key of it
    ∷ row 7 (asks (made_all after_e1 (delete 1)) (before_e8 r) 1) (finds 1 3 36 1 (r 1))
    -- "5 when neither has the key"; "with 5 the older": both counts
    ∷ row 8 (asks usual usual 1) (refuses 5 1 4)
    ∷ row 9 (asks after_e1 (before_e8 r) 17) (refuses 5 1 4)
    -- of another phase: four buckets of a table that grows, where key 9 is in its interim level
    ∷ row 10 (asks (grown r) after_e1 17) (refuses 5 1 6)
    ∷ row 11 (asks (grown r) after_e1 9) (finds 0 4 10 9 (r 9))
    ∷ row 12 (asks after_e1 (grown r) 9) (finds 1 6 10 9 (r 9))
    ∷ row 13 (asks (grown r) (grown r) 17) (refuses 5 1 8)
    ∷ row 14 (asks (shrunk r) after_e1 2) (finds 0 3 75 2 (r 2))
    ∷ row 15 (asks after_e1 (shrunk r) 2) (finds 1 5 75 2 (r 2))
    ∷ row 16 (asks (shrunk r) (grown r) 17) (refuses 5 1 8)
    -- of another form, c and multipliers
    ∷ row 17 (asks (after_e1_in 2) (before_e8 r) 1) (finds 0 1 36 1 (record_of 10 20))
    ∷ row 18 (asks after_e1 (before_e8_in 2 r) 3) (finds 1 3 39 3 (r 3))
    ∷ row 19 (asks after_e1 (small r) 3) (finds 1 3 23 3 (r 3))
    ∷ row 20 (asks (small r) (before_e8 r) 3) (finds 0 1 23 3 (r 3))
    ∷ row 21 (asks (small r) after_e1 1) (finds 1 3 36 1 (record_of 10 20))
    ∷ []

-- "Refusals 1 and 3 are tested on both tables before any lookup, both of the newer first"; "With 1 or 3 name that table, count 0". Key 1 is in both
unfoldable pub refusals : (ℕ → Record) → List Row
refusals r =
    row 22 (asks (badly after_e1) (before_e8 r) 1) (refuses 1 0 0)
    ∷ row 23 (asks (flagged after_e1) (before_e8 r) 1) (refuses 3 0 0)
    ∷ row 24 (asks after_e1 (badly (before_e8 r)) 1) (refuses 1 1 0)
    ∷ row 25 (asks after_e1 (flagged (before_e8 r)) 1) (refuses 3 1 0)
    ∷ row 26 (asks (flagged after_e1) (badly (before_e8 r)) 1) (refuses 3 0 0)
    ∷ row 27 (asks (badly after_e1) (flagged (before_e8 r)) 1) (refuses 1 0 0)
    ∷ row 28 (asks (flagged (badly after_e1)) (before_e8 r) 1) (refuses 1 0 0)
    ∷ row 29 (asks after_e1 (flagged (badly (before_e8 r))) 1) (refuses 1 1 0)
    -- no words at all
    ∷ row 30 (asks [] after_e1 1) (refuses 1 0 0)
    ∷ row 31 (asks after_e1 [] 1) (refuses 1 1 0)
    ∷ row 32 (asks [] [] 1) (refuses 1 0 0)
    -- 1 or 3 of the older stands before 5 of the newer
    ∷ row 33 (asks usual (flagged after_e1) 1) (refuses 3 1 0)
    ∷ []

-- "an insert, update or delete of a hidden key in the older table, made whole, changes no record answered for any key; slots and counts of other keys may
-- change": key 15 is hidden, and its insert moves key 8 of the older from word 10 to word 23, which is found a bucket earlier
abbrev pub hiding : Table
hiding = made_all usual (insert 15 (record_of 7 8))

abbrev pub moved : (ℕ → Record) → Table
moved r = made_all (before_e9 1 r) (insert 15 (r 15))

unfoldable pub hidden : (ℕ → Record) → List Row
hidden r =
    row 34 (asks hiding (before_e9 1 r) 15) (finds 0 1 36 15 (record_of 7 8))
    ∷ row 35 (asks hiding (before_e9 1 r) 8) (finds 1 4 10 8 (r 8))
    ∷ row 36 (asks hiding (moved r) 15) (finds 0 1 36 15 (record_of 7 8))
    ∷ row 37 (asks hiding (moved r) 8) (finds 1 3 23 8 (r 8))
    ∷ row 38 (asks hiding (made_all (moved r) (update 15 (record_of 5 6))) 15) (finds 0 1 36 15 (record_of 7 8))
    ∷ row 39 (asks hiding (made_all (moved r) (update 15 (record_of 5 6))) 8) (finds 1 3 23 8 (r 8))
    ∷ row 40 (asks hiding (made_all (moved r) (delete 15)) 15) (finds 0 1 36 15 (record_of 7 8))
    ∷ row 41 (asks hiding (made_all (moved r) (delete 15)) 8) (finds 1 3 23 8 (r 8))
    ∷ []

abbrev pub cases : (ℕ → Record) → List Row
cases r = answers r ++ (refusals r ++ hidden r)

-- the rules compute what request i) asks for
pub overlay_cases : (r : ℕ → Record) → map (λ (x : Row). x.computed) (cases r) ≡ map (λ (x : Row). x.paper) (cases r)
unfolding opened shrink_tests shrink_of asked_result part_result words_of small shrunk answers refusals hidden
overlay_cases r = refl
