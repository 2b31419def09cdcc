-- Document 02, request a), a second time: its sentences in facts about queries, words and the map, without the walk. They are types, as
-- those of `Demands` are: a law of proofs/ that proves one bears its name, beginning with a small letter.
-- Assumes nothing.
use Rattle.std.specs.Prelude.{ℕ, ◌+◌, ◌-◌, ◌*◌, ◌^◌, ◌≤◌, ◌<◌, ◌≡◌, List, [], ◌∷◌, map, ◌⊎◌, length, drop, Ok, Err}
use Rattle.std.proofs.Math.Option.{none, some}
use Rattle.rules.specs.Choice.{from}
use Rattle.rules.specs.Words.{Table, word}
use Rattle.rules.specs.Soundness.{SoundTable, PlainMap, HasMap}
use Rattle.rules.specs.Answers.{chain_means}
use Rattle.rules.specs.Calls.{Outcome, refused, listed, Call, recover}
use Rattle.rules.specs.Results.{change_result, query_result}
use Rattle.rules.specs.Chains.{chain_result}
use Rattle.rules.specs.Histories.{Event, whole, cut, after, History, Recovery, Accepted}
use Rattle.rules.specs.Demands.{AtRest, Held, bad_header, flag_not_zero, FirstRefuses, map_after, Given, AnswersRecord, count_of}
use Rattle.rules.specs.declared.Record.{Record}
use Rattle.rules.specs.declared.Refusal.{Refusal}
use Rattle.rules.specs.declared.Refusal.TheVariants.{KeyAbsent, ShortRecords, BadPosition}
use Rattle.rules.specs.Answers.{Query, misses, Chain}

-- the key of an address at a depth, and what a query of it answers
abbrev pub key_at : ℕ → ℕ → ℕ
key_at address e = 256 * address + e

abbrev pub asked : Table → ℕ → ℕ → Query
asked t address e = query_result t (key_at address e)

-- ==== "fewer than 2(d + 1) words give a new refusal 15, and an address of 2^56 or more, or a depth above 255, gives 16. These are checked
-- after 1 and 3, 16 before 15. The first missing depth gives 5": the first reason that holds refuses

abbrev pub chain_reasons : Table → ℕ → ℕ → ℕ → List (Type 0 × Refusal)
chain_reasons t address d n =
    bad_header t ∷ flag_not_zero t ∷ (((2 ^ 56 ≤ address) ⊎ (255 < d)), BadPosition) ∷ (n < 2 * d + 2, ShortRecords)
    ∷ (((e : ℕ) × (e ≤ d) × (Held t (key_at address e) → ⊥)), KeyAbsent) ∷ []

-- an accepted chain lists no stores: so no cut can come into it
abbrev pub chain_outcome : Chain → Outcome
chain_outcome (Ok n) = listed []
chain_outcome (Err x) = refused x.refusal

abbrev pub ChainRefusals : Type 0
ChainRefusals =
    (t : Table) (address d : ℕ) (l : List ℕ) → FirstRefuses (chain_reasons t address d (length l)) (chain_outcome (chain_result t address d l).0)

-- ==== "return the records of depth d, then each smaller depth down to 0. .. The records go to lent words, two each": in the lent words m
-- the record of depth e stands in words 2(d − e) and 2(d − e) + 1

abbrev pub StandsAt : List ℕ → ℕ → ℕ → Record → Type 0
StandsAt m d e r = (word m (2 * (d - e)) ≡ r.function) × (word m (2 * (d - e) + 1) ≡ r.place)

-- "success writes just those words"
pub record ChainWritten (t : Table) (address d : ℕ) (l m : List ℕ) : Type 0 where
  pub records : (e : ℕ) → e ≤ d → (r : Record) × AnswersRecord (asked t address e) r × StandsAt m d e r
  pub long : length m ≡ length l
  pub rest : drop (2 * d + 2) m ≡ drop (2 * d + 2) l

-- "The first missing depth gives 5 and nothing is written", and nothing with any other refusal
abbrev pub ChainWrites : Type 0
ChainWrites =
    (t : Table) (address d : ℕ) (l : List ℕ)
    → (((chain_means (chain_result t address d l).0).number ≡ 0) × ChainWritten t address d l (chain_result t address d l).1)
    ⊎ (((chain_means (chain_result t address d l).0).number ≡ 0 → ⊥) × ((chain_result t address d l).1 ≡ l))

-- ==== "The count is the sum of the queries' probe counts down to the last depth asked, the missing one included, and 0 with other refusals"

abbrev pub total : List ℕ → ℕ
total [] = 0
total (n ∷ ns) = n + total ns

-- the counts of n queries, at depths e, e + 1, ..
abbrev pub counts_from : Table → ℕ → ℕ → ℕ → List ℕ
counts_from t address e n = map (λ (i : ℕ). count_of (asked t address i)) (from e n)

-- depth e is missing, and every depth above it, up to d, is there
pub record FirstMissing (t : Table) (address d e : ℕ) : Type 0 where
  pub within : e ≤ d
  pub gap : (n : ℕ) × (asked t address e ≡ misses KeyAbsent n)
  pub above : (i : ℕ) → e < i → i ≤ d → (r : Record) × AnswersRecord (asked t address i) r

abbrev pub ChainCountBy : Table → ℕ → ℕ → Chain → Type 0
ChainCountBy t address d (Ok n) = n ≡ total (counts_from t address 0 (d + 1))
ChainCountBy t address d (Err x) =
    ((x.refusal ≡ KeyAbsent) × ((e : ℕ) × FirstMissing t address d e × (x.looked ≡ total (counts_from t address e (d - e + 1)))))
    ⊎ ((x.refusal ≡ KeyAbsent → ⊥) × (x.looked ≡ 0))

abbrev pub ChainCounts : Type 0
ChainCounts = (t : Table) (address d : ℕ) (l : List ℕ) → ChainCountBy t address d (chain_result t address d l).0

-- "never more than 4(d + 1) at rest or 6(d + 1) otherwise"
abbrev pub count_told : Chain → ℕ
count_told (Ok n) = n
count_told (Err x) = x.looked

abbrev pub ChainLooksAtFew : Type 0
ChainLooksAtFew =
    (t : Table) (address d : ℕ) (l : List ℕ) → (AtRest t → count_told (chain_result t address d l).0 ≤ 4 * (d + 1))
    × (count_told (chain_result t address d l).0 ≤ 6 * (d + 1))

-- ==== on a sound table with the map m: 0 exactly when m has every depth from d to 0, and then m's records in that order; else 5

abbrev pub ChainBy : PlainMap → ℕ → ℕ → List ℕ → Chain × List ℕ → Type 0
ChainBy m address d l a =
    (((chain_means a.0).number ≡ 0) × ((e : ℕ) → e ≤ d → (r : Record) × (m (key_at address e) ≡ some r) × StandsAt a.1 d e r))
    ⊎ (((chain_means a.0).number ≡ 5) × (a.1 ≡ l) × ((e : ℕ) × (e ≤ d) × (m (key_at address e) ≡ none)))

-- every chain that may be asked: "Given an address and a depth d from 0 to 255", with words enough
abbrev pub ChainsBy : Table → PlainMap → Type 0
ChainsBy t m =
    (address d : ℕ) (l : List ℕ) → address < 2 ^ 56 → d ≤ 255 → 2 * (d + 1) ≤ length l → ChainBy m address d l (chain_result t address d l)

abbrev pub ChainAnswers : Type 0
ChainAnswers = (t : Table) (m : PlainMap) → SoundTable t → HasMap t m → ChainsBy t m

-- after any accepted change, cut after any of its stores, and recoveries of which all but the last may be cut, all chains are those of
-- one map, the one before or the one after: none has frames of both
abbrev pub ChainsAfterCuts : Type 0
ChainsAfterCuts =
    (t : Table) (m : PlainMap) (l : List ℕ) → Given t m (length l) → (q : Call) → Accepted (change_result t l q).0
    → (n : ℕ) (es : List Event) (u : Table) → History Recovery (after t (cut q l n)) es u → (k : List ℕ) → 20 ≤ length k
    → ChainsBy (after u (whole recover k)) m ⊎ ChainsBy (after u (whole recover k)) (map_after q m)
