-- Document 02, request g): cases of form 2 as one table under one statement, computed from the rules. Each row holds what the rules compute and
-- what the request's sentences ask for. Tables and rows are those of `Examples`, made as a caller makes them: c = 2, k = 1 and the usual
-- multipliers, but for rows 14 to 18, 21, 22 and 31. The keys of document 01's examples are below 2^24 and have tag 0 there, so these cases take
-- `wide n`, which has the places of key n and the tag n + 4. Bucket 0 has token word 9, buckets 1 and 2 have 22 and 35.
-- Assumes nothing.
use Rattle.std.specs.Prelude.{ℕ, ◌+◌, ◌-◌, ◌*◌, ◌^◌, ◌≡◌, refl, List, [], ◌∷◌, ◌++◌, map, replicate, set}
use Rattle.rules.specs.Words.{Table, word}
use Rattle.rules.specs.Stores.{turned_of}
use Rattle.rules.specs.Answers.{verdict_means}
use Rattle.rules.specs.Calls.{shrink_tests, shrink_of, insert, update, delete, begin, shrink, step, recover}
use Rattle.rules.specs.Results.{create_result}
use Rattle.rules.specs.Chains.{key_of, position_good, records_long, position_tests, chain_tests, walk, query_of, chain_result}
use Rattle.rules.specs.declared.Record.{Record}
use Rattle.rules.specs.Examples.{lists, refuses, tells, words, Row, row, sees, asks, indexes, tokens, list_of, inserted, answered}
use Rattle.rules.specs.Examples.{made_first, made_all, fresh_in, usual_in, record_of, opened}
use Rattle.rules.specs.ChainCases.{shows}

-- bits 24 to 31 are n + 4, the rest is n; nothing stands from bit 32 on, so that nothing is mixed
abbrev pub wide : ℕ → ℕ
wide n = (n + 4) * 2 ^ 24 + n

abbrev pub wides : List ℕ → List ℕ
wides ns = map wide ns

-- ---- the tables

abbrev pub new : Table
new = usual_in 2

-- one item, in slot 0 of bucket 2, with tag 5
unfoldable pub one : Table
one = made_all new (insert (wide 1) (record_of 10 20))

-- four items fill bucket 2, with the tags 5, 7, 9 and 11; a second four, with 13, 15, 17 and 19, bucket 0
abbrev pub four : List ℕ
four = wides (1 ∷ 3 ∷ 5 ∷ 7 ∷ [])

abbrev pub eight_keys : List ℕ
eight_keys = four ++ wides (9 ∷ 11 ∷ 13 ∷ 15 ∷ [])

unfoldable pub full : (ℕ → Record) → Table
full r = inserted r new four

unfoldable pub fuller : (ℕ → Record) → Table
fuller r = inserted r new eight_keys

-- as E9's: top bucket 1 is full, top bucket 0 has three items, and the bottom four, of which key 8 may move
abbrev pub evens : List ℕ
evens = wides (0 ∷ 2 ∷ 4 ∷ 6 ∷ 8 ∷ [])

abbrev pub odds : List ℕ
odds = wides (1 ∷ 3 ∷ 5 ∷ 7 ∷ 9 ∷ 11 ∷ 13 ∷ [])

unfoldable pub half : (ℕ → Record) → Table
half r = inserted r new evens

unfoldable pub tight : (ℕ → Record) → Table
tight r = inserted r (made_all (half r) (delete (wide 0))) odds

-- both multipliers 4294967297 and k = 2, as in `ResizeCases`
abbrev pub tall : Table
tall = (create_result (replicate 100 7) 2 2 2 4294967297 4294967297).1

abbrev pub three : List ℕ
three = wides (0 ∷ 4 ∷ 1 ∷ [])

unfoldable pub shrunk : (ℕ → Record) → Table
shrunk r = made_all (inserted r tall three) shrink

-- ---- the table of rows

-- "an eight-bit tag for each taken slot in the token word, slot s at bits 8 + 8s to 15 + 8s"; "Token and tag change in one store, so all store
-- numbers stay": 1281 = 1 + 5 · 2^8 and 327682 = 2 + 5 · 2^16
unfoldable pub changes : (ℕ → Record) → List Row
changes r =
    row 1 (sees new (insert (wide 1) (record_of 10 20))) (lists ((36, 83886081) ∷ (37, 10) ∷ (38, 20) ∷ (35, 1281) ∷ []))
    ∷ row 2 (asks one (wide 1)) (tells 0 (10 ∷ 20 ∷ 1 ∷ 36 ∷ 0 ∷ []))
    ∷ row 3 (asks one 1) (tells 5 (0 ∷ 0 ∷ 2 ∷ 0 ∷ 0 ∷ []))
    ∷ row 4 (sees one (insert (wide 1) (r 1))) (refuses 4)
    ∷ row 5 (sees one (update (wide 1) (record_of 30 40))) (lists ((39, 83886081) ∷ (40, 30) ∷ (41, 40) ∷ (35, 327682) ∷ []))
    -- "Free slots have tag 0"
    ∷ row 6 (sees one (delete (wide 1))) (lists ((35, 0) ∷ []))
    ∷ row 7 (words (word (full r) 35 ∷ [])) (words (47396095247 ∷ []))
    ∷ row 8 (sees (full r) (delete (wide 3))) (lists ((35, 47395636493) ∷ []))
    -- with every slot of its bucket taken the update goes by the log, and no token word is stored
    ∷ row 9 (sees (full r) (update (wide 1) (record_of 30 40)))
    (lists ((6, 36) ∷ (7, 30) ∷ (8, 40) ∷ (5, 1) ∷ (37, 30) ∷ (38, 40) ∷ (5, 0) ∷ []))
    ∷ row 10 (sees (made_first (full r) (update (wide 1) (record_of 30 40)) 5) recover) (lists ((37, 30) ∷ (38, 40) ∷ (5, 0) ∷ []))
    ∷ row 10 (sees (made_first (full r) (update (wide 1) (record_of 30 40)) 3) recover) (lists [])
    ∷ []

-- what moves an item takes its tag from its key: in row 11 it is 12, of `wide 8`
unfoldable pub moves : (ℕ → Record) → List Row
moves r =
    row 11 (words (indexes (list_of (tight r) (insert (wide 15) (r 15))))) (words (23 ∷ 24 ∷ 25 ∷ 22 ∷ 9 ∷ 10 ∷ 11 ∷ 12 ∷ 9 ∷ []))
    ∷ row 11 (words (tokens (list_of (tight r) (insert (wide 15) (r 15))))) (words (43084286991 ∷ 73266954254 ∷ 73266959119 ∷ []))
    -- steps of a growth and of a shrink
    ∷ row 12 (words (word (fuller r) 9 ∷ [])) (words (81890577679 ∷ []))
    ∷ row 13 (sees (made_all (fuller r) begin) step)
    (lists ((62, wide 9) ∷ (63, (r (wide 9)).function) ∷ (64, (r (wide 9)).place) ∷ (61, 3329) ∷ (9, 81890574350) ∷ []))
    -- and not from the word: the same with tag 99 for slot 0 of bucket 0 instead of 13
    ∷ row 13 (sees (set (made_all (fuller r) begin) 9 (81890577679 + 86 * 2 ^ 8)) step)
    (lists ((62, wide 9) ∷ (63, (r (wide 9)).function) ∷ (64, (r (wide 9)).place) ∷ (61, 3329) ∷ (9, 81890574350) ∷ []))
    ∷ row 14 (words (word (shrunk r) 48 ∷ [])) (words (525315 ∷ []))
    ∷ row 15 (sees (shrunk r) step)
    (lists ((23, wide 0) ∷ (24, (r (wide 0)).function) ∷ (25, (r (wide 0)).place) ∷ (22, 1025) ∷ (48, 524290) ∷ []))
    ∷ row 16 (sees (made_first (shrunk (λ (key : ℕ). record_of 10 20)) step 4) recover) (lists ((48, 524290) ∷ []))
    ∷ row 17 (sees (made_first (shrunk r) step 3) recover) (lists [])
    -- what the tables take as done was answered with 0
    ∷ row 18 (words (answered r tall three)) (words (replicate 3 0))
    ∷ row 18 (words (answered r new eight_keys)) (words (replicate 8 0))
    ∷ row 18 (words (answered r new evens)) (words (replicate 5 0))
    ∷ row 18 (words (answered r (made_all (half r) (delete (wide 0))) odds)) (words (replicate 7 0))
    ∷ []

-- "In form 2, before hashing, a key is combined by exclusive or with itself divided by 2^32. Form 1 keeps the old rule": the key is
-- 3 · 2^32 + 5 · 2^24 + 2, of which form 2 hashes 3 · 2^32 + 5 · 2^24 + 1
unfoldable pub hashed : (ℕ → Record) → List Row
hashed r =
    let key : ℕ = 12968787970 in
    let far : ℕ = 2 ^ 56 + 3 * 2 ^ 24 in
    let odd1 : ℕ = 11400714819323198485 in
    let odd2 : ℕ = 14029467366897019727 in
    row 19 (sees new (insert key (r 1))) (lists ((23, key) ∷ (24, (r 1).function) ∷ (25, (r 1).place) ∷ (22, 1281) ∷ []))
    -- no sum: of 3 · 2^24 and 2^24 the exclusive or is 2 · 2^24
    ∷ row 19 (sees new (insert far (r 1))) (lists ((23, far) ∷ (24, (r 1).function) ∷ (25, (r 1).place) ∷ (22, 513) ∷ []))
    ∷ row 20 (sees (usual_in 1) (insert key (r 1))) (lists ((36, key) ∷ (37, (r 1).function) ∷ (38, (r 1).place) ∷ (35, 1) ∷ []))
    -- "the hash 1 product modulo 2^64, divided by 2^24, modulo 256"
    ∷ row 21 (sees (fresh_in 2 odd1 odd2) (insert 1 (r 1))) (lists ((36, 1) ∷ (37, (r 1).function) ∷ (38, (r 1).place) ∷ (35, 32513) ∷ []))
    ∷ row 22 (sees (fresh_in 2 odd1 odd2) (insert 2 (r 2))) (lists ((23, 2) ∷ (24, (r 2).function) ∷ (25, (r 2).place) ∷ (22, 65025) ∷ []))
    ∷ []

-- `one` with another word 35: what no list of a call leaves
abbrev pub damaged : ℕ → Table
damaged w = set one 35 w

-- "A form 2 query reads only the slots whose tag fits": with the tag 6 instead of 5 the key is not found, by any call
unfoldable pub hides : (ℕ → Record) → List Row
hides r =
    let t = damaged (1 + 6 * 2 ^ 8) in
    row 23 (asks t (wide 1)) (tells 5 (0 ∷ 0 ∷ 2 ∷ 0 ∷ 0 ∷ []))
    ∷ row 24 (sees t (update (wide 1) (r 1))) (refuses 5)
    ∷ row 25 (sees t (delete (wide 1))) (refuses 5)
    ∷ row 26 (sees t (insert (wide 1) (record_of 30 40)))
    (lists ((39, wide 1) ∷ (40, 30) ∷ (41, 40) ∷ (35, 1 + 6 * 2 ^ 8 + (2 + 5 * 2 ^ 16)) ∷ []))
    ∷ row 27 (shows t (5 * 2 ^ 16) 1 (replicate 4 7)) (tells 5 (2 ∷ replicate 4 7))
    ∷ row 28 (sees t recover) (refuses 12)
    -- tag 0 is a tag like any other: a free slot has it, and is none
    ∷ row 29 (asks (made_all (made_all new (insert 1 (r 1))) (delete 1)) 1) (tells 5 (0 ∷ 0 ∷ 2 ∷ 0 ∷ 0 ∷ []))
    ∷ row 30 (asks (made_all new (insert 1 (r 1))) 1) (tells 0 ((r 1).function ∷ (r 1).place ∷ 1 ∷ 36 ∷ 0 ∷ []))
    ∷ []

-- "soundness and recovery test this": two copies of one item, in t as the cut of row 16 leaves them, in u in one bucket, as none does. The words are
-- tested before copies are looked for
unfoldable pub copies : Table → Table → List Row
copies t u =
    row 31 (sees (set t 22 (1 + 5 * 2 ^ 8)) recover) (refuses 12)
    ∷ row 31 (sees (set u 35 (3 + 5 * 2 ^ 8 + 5 * 2 ^ 16)) recover) (lists ((35, 1281) ∷ []))
    ∷ row 32 (sees (set u 35 (3 + 5 * 2 ^ 8 + 6 * 2 ^ 16)) recover) (refuses 12)
    ∷ row 33 (sees (set u 35 (3 + 6 * 2 ^ 8 + 5 * 2 ^ 16)) recover) (refuses 12)
    ∷ []

-- "calls read and write the whole word where 01 said modulo 16, keeping bits they do not change"
unfoldable pub keeps : (ℕ → Record) → List Row
keeps r =
    -- a tag on a free slot: showing the slot overwrites it, hiding another keeps it
    let tagged1 = damaged (1 + 5 * 2 ^ 8 + 9 * 2 ^ 16) in
    -- bits 4 to 7, and bits 40 and up
    let low = damaged (1 + 5 * 2 ^ 8 + 9 * 2 ^ 4) in
    let high = damaged (1 + 5 * 2 ^ 8 + 3 * 2 ^ 40) in
    row 34 (sees tagged1 recover) (refuses 12)
    ∷ row 35 (sees tagged1 (insert (wide 3) (r 3)))
    (lists ((39, wide 3) ∷ (40, (r 3).function) ∷ (41, (r 3).place) ∷ (35, 1 + 5 * 2 ^ 8 + (2 + 7 * 2 ^ 16)) ∷ []))
    ∷ row 36 (sees tagged1 (delete (wide 1))) (lists ((35, 9 * 2 ^ 16) ∷ []))
    ∷ row 37 (sees low recover) (refuses 12)
    ∷ row 38 (sees low (update (wide 1) (record_of 30 40)))
    (lists ((39, wide 1) ∷ (40, 30) ∷ (41, 40) ∷ (35, 9 * 2 ^ 4 + (2 + 5 * 2 ^ 16)) ∷ []))
    ∷ row 39 (sees high recover) (refuses 12)
    ∷ row 40 (sees high (delete (wide 1))) (lists ((35, 3 * 2 ^ 40) ∷ []))
    ∷ row 41 (asks high (wide 1)) (tells 0 (10 ∷ 20 ∷ 1 ∷ 36 ∷ 0 ∷ []))
    -- in a table of form 1 only bits 0 to 3 of a token word are read
    ∷ row 42 (sees (set (set one 0 1) 35 1281) recover) (refuses 12)
    ∷ row 43 (sees (set (set one 0 1) 35 1281) (delete (wide 1))) (lists ((35, 0) ∷ []))
    ∷ row 44 (asks (set (set one 0 1) 35 1537) (wide 1)) (tells 0 (10 ∷ 20 ∷ 1 ∷ 36 ∷ 0 ∷ []))
    ∷ []

-- what creation in 100 used words answers, and its first word
abbrev pub creates : ℕ → List ℕ
creates form =
    let a = create_result (replicate 100 7) form 2 1 4294967297 12884901889 in
    (verdict_means a.0).number ∷ word a.1 0 ∷ []

-- "Creation is told the form; any but 1 and 2 gives 13, and in a table 1"
unfoldable pub told : List Row
told =
    row 45 (words (creates 0)) (words (13 ∷ 7 ∷ []))
    ∷ row 45 (words (creates 1)) (words (0 ∷ 1 ∷ []))
    ∷ row 45 (words (creates 2)) (words (0 ∷ 2 ∷ []))
    ∷ row 45 (words (creates 3)) (words (13 ∷ 7 ∷ []))
    ∷ row 45 (words (creates (2 ^ 64 - 1))) (words (13 ∷ 7 ∷ []))
    ∷ row 46 (asks (set one 0 3) (wide 1)) (tells 1 (0 ∷ 0 ∷ 0 ∷ 0 ∷ 0 ∷ []))
    ∷ row 46 (sees (set one 0 0) recover) (refuses 1)
    ∷ []

unfoldable pub cases : (ℕ → Record) → List Row
cases r =
    let stepping = made_first (shrunk (λ (key : ℕ). record_of 10 20)) step 4 in
    let updating = made_first one (update (wide 1) (record_of 10 20)) 3 in
    changes r ++ (moves r ++ (hashed r ++ (hides r ++ (copies stepping updating ++ (keeps r ++ told)))))

-- the rules compute what the request asks for
pub form_cases : (r : ℕ → Record) → map (λ (x : Row). x.computed) (cases r) ≡ map (λ (x : Row). x.paper) (cases r)
unfolding opened shrink_tests shrink_of turned_of key_of position_good records_long position_tests chain_tests walk query_of chain_result one full fuller half
    tight shrunk changes moves hashed hides copies keeps told cases
form_cases r = refl
