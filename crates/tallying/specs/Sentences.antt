-- Request d) on functions and their samples, said a second time, in facts. No code leans on this. The definitions of `Functions` and `Credits`
-- are proved to keep it.
-- Assumes nothing.
use Rattle.std.specs.Prelude.{◌≡◌, ℕ, ◌+◌, ◌%◌, ◌^◌, ◌<◌, true, false, ◌↔◌, List, [], ◌∷◌, ◌++◌, length, ◌≢◌}
use Rattle.tallying.specs.Functions.{has, times_in}
use Rattle.tallying.specs.Credits.{credits_of, Ascending}

-- ---- "The first 512 different functions in input order are counted"

-- no two are the same
abbrev pub Distinct : List ℕ → Type 0
Distinct [] = Unit {0}
Distinct (f ∷ fs) = (has f fs ≡ false) × Distinct fs

-- fewer than n different functions are named: every list of different named ones is shorter
abbrev pub FewerNamed : ℕ → List ℕ → Type 0
FewerNamed n named = (fs : List ℕ) → Distinct fs → ((f : ℕ) → has f fs ≡ true → has f named ≡ true) → length fs < n

-- a function is counted exactly where fewer than 512 others are named before its first sample
abbrev pub FirstAreCounted : Type 0
FirstAreCounted = (before behind : List ℕ) (f : ℕ) → has f before ≡ false
    → (has f (credits_of (before ++ (f ∷ behind))).functions ≡ true) ↔ FewerNamed 512 before

-- and no other has a line
abbrev pub OnlyNamedAreCounted : Type 0
OnlyNamedAreCounted = (named : List ℕ) (f : ℕ) → has f (credits_of named).functions ≡ true → has f named ≡ true

-- "one `fn` line for each function ascending"
abbrev pub FunctionsAscend : Type 0
FunctionsAscend = (named : List ℕ) → Ascending (credits_of named).functions

-- ---- "samples for each function named"

-- as often as it is named: one sample more wherever it stands, none where it is not named
abbrev pub EachSampleCounts : Type 0
EachSampleCounts = (f g : ℕ) (before behind : List ℕ)
    → (times_in f (before ++ (f ∷ behind)) ≡ times_in f (before ++ behind) + 1)
    × ((g ≢ f) → times_in f (before ++ (g ∷ behind)) ≡ times_in f (before ++ behind)) × (times_in f [] ≡ 0)

-- the number beside a function is that of its samples; "whole numbers below 2^64"
abbrev pub SamplesOfEach : Type 0
SamplesOfEach = (named before behind : List ℕ) (f : ℕ) → (credits_of named).functions ≡ before ++ (f ∷ behind)
    → (ns ms : List ℕ) × ((credits_of named).samples ≡ ns ++ ((times_in f named % 2 ^ 64) ∷ ms)) × (length ns ≡ length before)

-- ---- "The total of all printed function counts, `other` and no-record equals the samples read"

abbrev pub total : List ℕ → ℕ
total [] = 0
total (n ∷ ns) = n + total ns

-- every sample that names a function is that of a counted one or of another, and of one only
abbrev pub AllSamplesCount : Type 0
AllSamplesCount = (named : List ℕ) → length named < 2 ^ 64 → total (credits_of named).samples + (credits_of named).other ≡ length named
