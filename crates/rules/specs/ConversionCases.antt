-- Document 02, request h): cases of conversions as one table under one statement, computed from the rules. Each row holds what the rules compute and
-- what the request's sentences ask for: number, key, and every word of the second table at exit, which has 7 in every word at entry.
--
-- Most tables have c = 1 and k = 1, so that bucket 0 is the bottom and buckets 1 and 2 are the top, and the multipliers 1 and 2^32 + 1. For a key with
-- the upper half u and the lower half l the hashes are u and u + l in form 1, and u and u + (l xor u) in form 2. So the first place of a key with
-- u = 1 is bucket 2 in both forms. In form 1 the second place is bucket 1 where l is odd, in form 2 where it is even; else it is bucket 2 too.
-- Assumes nothing.
use Rattle.std.specs.Prelude.{ℕ, ◌+◌, ◌-◌, ◌*◌, ◌^◌, ◌≡◌, refl, List, [], ◌∷◌, ◌++◌, map, replicate, set}
use Rattle.rules.specs.Words.{Table}
use Rattle.rules.specs.Soundness.{sound_tests}
use Rattle.rules.specs.Answers.{conversion_means}
use Rattle.rules.specs.Conversions.{convert_tests, other_form, fresh_for, filling, convert_result}
use Rattle.rules.specs.declared.Record.{Record}
use Rattle.rules.specs.Examples.{Shown, tells, Row, row, opened}

-- ---- tables by their words

abbrev pub header : ℕ → List ℕ
header form = form ∷ 1 ∷ 1 ∷ 4294967297 ∷ 1 ∷ replicate 4 0

abbrev pub table : ℕ → List ℕ → List ℕ → List ℕ → Table
table form bottom top0 top1 = header form ++ (bottom ++ (top0 ++ top1))

abbrev pub bucket : ℕ → List ℕ → List ℕ → List ℕ → List ℕ → List ℕ
bucket token s0 s1 s2 s3 = token ∷ (s0 ++ (s1 ++ (s2 ++ s3)))

abbrev pub free : List ℕ
free = 0 ∷ 0 ∷ 0 ∷ []

abbrev pub empty : List ℕ
empty = bucket 0 free free free free

-- words that a deleted item has left
abbrev pub old : List ℕ
old = 7 ∷ 7 ∷ 7 ∷ []

module _ (r : ℕ → Record) where
  -- a slot with a key and its record
  abbrev pub item : ℕ → List ℕ
  item key = key ∷ (r key).function ∷ (r key).place ∷ []

-- the n-th key that has both top buckets in the form f, and bucket 2 alone in the other; n is its tag in form 2
abbrev pub narrows : ℕ → ℕ → ℕ
narrows f n = 2 ^ 32 + (n * 2 ^ 24 + (2 * n + (2 - f)))

-- number, key and second table
abbrev pub converts : Table → ℕ → Shown
converts t n = let a = convert_result t (replicate n 7) in tells (conversion_means a.0).number ((conversion_means a.0).values ++ a.1)

-- ---- the table of rows

-- "insert every item in probe-level order, bucket and slot ascending": all keys have bucket 2 alone in the new table, so that they come to stand
-- there in the order in which they are read, four in bucket 2 and the fifth in the bottom. What a free slot holds, and words 6 to 8, play no part
unfoldable pub ordered : (ℕ → Record) → List Row
ordered r =
    let a : ℕ → List ℕ = λ (n : ℕ). item r (narrows 1 n) in
    let b : ℕ → List ℕ = λ (n : ℕ). item r (narrows 2 n) in
    row 1 (converts (set (table 1 (bucket 2 free (a 13) free free) (bucket 10 old (a 5) free (a 7)) (bucket 5 (a 9) free (a 11) free)) 6 7) 48)
    (tells 0 (0 ∷ table 2 (bucket (1 + 13 * 2 ^ 8) (a 13) free free free) empty
    (bucket (15 + 5 * 2 ^ 8 + 7 * 2 ^ 16 + 9 * 2 ^ 24 + 11 * 2 ^ 32) (a 5) (a 7) (a 9) (a 11))))
    ∷ row 2 (converts (table 2 (bucket (2 + 13 * 2 ^ 16) free (b 13) free free) (bucket (10 + 5 * 2 ^ 16 + 7 * 2 ^ 32) old (b 5) free (b 7))
    (bucket (5 + 9 * 2 ^ 8 + 11 * 2 ^ 24) (b 9) free (b 11) free)) 48)
    (tells 0 (0 ∷ table 1 (bucket 1 (b 13) free free free) empty (bucket 15 (b 5) (b 7) (b 9) (b 11))))
    -- the same keys the other way have both top buckets: the emptier place, and at a tie the first
    ∷ row 3 (converts (table 2 (bucket (1 + 13 * 2 ^ 8) (a 13) free free free) empty
    (bucket (15 + 5 * 2 ^ 8 + 7 * 2 ^ 16 + 9 * 2 ^ 24 + 11 * 2 ^ 32) (a 5) (a 7) (a 9) (a 11))) 48)
    (tells 0 (0 ∷ table 1 empty (bucket 3 (a 7) (a 11) free free) (bucket 7 (a 5) (a 9) (a 13) free)))
    ∷ []

-- an item is inserted as insert does it: the last one finds bucket 2 and the bottom full, and an earlier one moves to its other place
unfoldable pub moved : (ℕ → Record) → List Row
moved r =
    let a : ℕ → List ℕ = λ (n : ℕ). item r (narrows 1 n) in
    let wide : List ℕ = item r (narrows 2 8) in
    row 4 (converts (table 1 (bucket 15 (a 4) (a 5) (a 6) (a 7)) (bucket 3 (a 0) (item r 2) free free) (bucket 15 wide (a 1) (a 2) (a 3))) 48)
    (tells 0 (0 ∷ table 2 (bucket (15 + 3 * 2 ^ 8 + 4 * 2 ^ 16 + 5 * 2 ^ 24 + 6 * 2 ^ 32) (a 3) (a 4) (a 5) (a 6))
    (bucket (3 + 8 * 2 ^ 16) (item r 2) wide free free) (bucket (15 + 7 * 2 ^ 16 + 1 * 2 ^ 24 + 2 * 2 ^ 32) (a 0) (a 7) (a 1) (a 2))))
    ∷ []

-- "If an item finds no place, answer 6 with its key and leave the second table freshly created": nine and ten keys, of which eight have a place
unfoldable pub no_place : (ℕ → Record) → List Row
no_place r =
    let a : ℕ → List ℕ = λ (n : ℕ). item r (narrows 1 n) in
    let b : ℕ → List ℕ = λ (n : ℕ). item r (narrows 2 n) in
    let tags : ℕ → ℕ → ℕ → ℕ → ℕ = λ (i j k l : ℕ). 15 + i * 2 ^ 8 + j * 2 ^ 16 + k * 2 ^ 24 + l * 2 ^ 32 in
    row 5 (converts (table 1 (bucket 4 free free (a 8) free) (bucket 15 (a 0) (a 1) (a 2) (a 3)) (bucket 15 (a 4) (a 5) (a 6) (a 7))) 48)
    (tells 6 (narrows 1 8 ∷ table 2 empty empty empty))
    ∷ row 6 (converts (table 2 (bucket (12 + 9 * 2 ^ 24 + 8 * 2 ^ 32) free free (b 9) (b 8)) (bucket (tags 0 1 2 3) (b 0) (b 1) (b 2) (b 3))
    (bucket (tags 4 5 6 7) (b 4) (b 5) (b 6) (b 7))) 48)
    (tells 6 (narrows 2 9 ∷ table 1 empty empty empty))
    ∷ []

-- "create the other form there with the same c, k and multipliers": c = 2, in 100 words, with k = 1 and k = 2
abbrev pub empty2 : ℕ → ℕ → Table
empty2 form state = form ∷ 2 ∷ 5 ∷ 7 ∷ state ∷ replicate 95 0

unfoldable pub created : List Row
created =
    row 7 (converts (empty2 1 1) 100) (tells 0 (0 ∷ empty2 2 1))
    ∷ row 7 (converts (empty2 2 2) 100) (tells 0 (0 ∷ empty2 1 2))
    ∷ row 7 (converts (table 1 empty empty empty) 48) (tells 0 (0 ∷ table 2 empty empty empty))
    ∷ []

-- "A source that is not sound gives 12, one in phase 1 or 2 gives 7, a second table of another length 13; these change nothing, in that order after 1
-- of the source. A set flag is 12 here, not 3."; t has one item, in slot 0 of bucket 2, and what makes it worse comes behind
abbrev pub unchanged : ℕ → ℕ → Shown
unchanged number n = tells number (0 ∷ replicate n 7)

unfoldable pub refused : Table → List Row
refused t =
    row 8 (converts (set t 0 3) 48) (unchanged 1 48)
    ∷ row 8 (converts (set (set t 3 4) 5 1) 47) (unchanged 1 47)
    ∷ row 8 (converts [] 48) (unchanged 1 48)
    -- the flag: with a target that recovery would follow, and with none
    ∷ row 9 (converts (set (set t 5 1) 6 36) 48) (unchanged 12 48)
    ∷ row 9 (converts (set t 5 2) 48) (unchanged 12 48)
    ∷ row 9 (converts (set (empty2 1 258) 5 1) 99) (unchanged 12 99)
    -- a token that no form has, a key in no place of its own, a wrong tag
    ∷ row 10 (converts (set t 35 17) 48) (unchanged 12 48)
    ∷ row 10 (converts (set t 36 2) 48) (unchanged 12 48)
    ∷ row 10 (converts (set t 0 2) 48) (unchanged 12 48)
    -- growing, and shrinking, before the length
    ∷ row 11 (converts (empty2 1 258) 100) (unchanged 7 100)
    ∷ row 11 (converts (empty2 2 513) 99) (unchanged 7 99)
    ∷ row 12 (converts t 47) (unchanged 13 47)
    ∷ row 12 (converts t 100) (unchanged 13 100)
    ∷ row 12 (converts t 0) (unchanged 13 0)
    ∷ []

-- one key twice, with equal records: recovery would mend it, and it is not sound
unfoldable pub doubled : (ℕ → Record) → List Row
doubled r =
    let a : List ℕ = item r (narrows 1 3) in
    row 13 (converts (table 1 empty (bucket 1 a free free free) (bucket 1 a free free free)) 48) (unchanged 12 48)
    ∷ []

unfoldable pub cases : (ℕ → Record) → List Row
cases r =
    ordered r ++ (moved r ++ (no_place r ++ (created ++ (refused (table 1 empty empty (bucket 1 (item r (narrows 1 3)) free free free)) ++ doubled r))))

-- the rules compute what the request asks for
pub conversion_cases : (r : ℕ → Record) → map (λ (x : Row). x.computed) (cases r) ≡ map (λ (x : Row). x.paper) (cases r)
unfolding opened sound_tests convert_tests other_form fresh_for filling convert_result ordered moved no_place created refused doubled cases
conversion_cases r = refl
