-- Document 02, request f), a second time: its sentences in facts about the words of the table and the buckets of its levels. They are types, as
-- those of `Demands` are: a law of proofs/ that proves one bears its name, beginning with a small letter.
-- Said there: "States with phase 2 need 1 ≤ k < c", by `HeaderWords`; "Steps and end are those of growth", by `StepAnswers`, `EndAnswers` and the
-- sentences of the steps, which speak of every table that is not at rest; "ten stores a change", "six buckets in either phase" and "40N + 2", by
-- `StoreNumbers`, `ProbesAreFew` and `ShrinkBound`; "Soundness and recovery must be restated over the new phase", by `SoundnessIsTested`,
-- `RecoveryAccepts` and `CutsAreSafe`, which speak of every good state and of every call.
-- Assumes nothing.
use Rattle.std.specs.Prelude.{ℕ, ◌+◌, ◌-◌, ◌/◌, ◌^◌, ◌≤◌, ◌<◌, ◌≡◌, ◌⊎◌, ◌↔◌, length}
use mathlib.Core.List.{List, [], ◌∷◌, Memᴰ as In}
use Rattle.rules.specs.Words.{Table, word, header_of, levels_in_use, InLevel}
use Rattle.rules.specs.Calls.{refused, listed, Call, query, insert, update, delete, begin, shrink, back, step_from, end, recover, outcome}
use Rattle.rules.specs.Results.{change_result}
use Rattle.rules.specs.Histories.{Event, whole, after, reported, spent, Accepted}
use Rattle.rules.specs.Demands.{AtRest, Resizing, Growing, Shrinking, MayChange, SpendsAtMost}
use Rattle.rules.specs.SpotSentences.{AmongBuckets, LevelNamed}
use Rattle.rules.specs.declared.Level.{Level}
use Rattle.rules.specs.declared.Refusal.TheVariants.{AlreadyResizing, NotResizing, TooSmall}

-- ==== "the state goes from rest with k to phase 2 with k − 1, in one store": word 4 is k at rest, and 512 and k in phase 2

abbrev pub ShrinkStores : Type 0
ShrinkStores =
    (t : Table) (n : ℕ) → MayChange t n → 2 ≤ word t 4 → word t 4 ≤ word t 1
    → outcome t n shrink ≡ listed ((4, 512 + (word t 4 - 1)) ∷ [])

-- ==== "levels in use are now three in either phase"

-- bucket j belongs to a level in use of that name
abbrev pub LevelHas : Table → ℕ → ℕ → Type 0
LevelHas t name j = (l : Level) × In l (levels_in_use (header_of t).state) × (l.name ≡ name) × InLevel l j

-- these are the levels that are named in facts: a top, a bottom and, but for at rest, an interim level
abbrev pub LevelsAreThree : Type 0
LevelsAreThree = (t : Table) (name j : ℕ) → LevelHas t name j ↔ LevelNamed t name j

-- "The old top becomes the interim level, the old bottom the top, and a level of a quarter of the old top the new bottom."
abbrev pub LevelsShrink : Type 0
LevelsShrink =
    (t : Table) (l : List ℕ) → Accepted (change_result t l shrink).0 → (j : ℕ)
    → let u = after t (whole shrink l) in
    (LevelHas t 0 j ↔ LevelHas u 2 j) × (LevelHas t 1 j ↔ LevelHas u 0 j) × (AmongBuckets (2 ^ word t 4 / 4) j ↔ LevelHas u 1 j)

-- ==== "It needs k at least 2, else new refusal 17; a table in phase 1 or 2 refuses both begins with 7, tested first."

abbrev pub SevenExactly : Type 0
SevenExactly =
    (t : Table) (n : ℕ) (q : Call) → (q ≡ begin) ⊎ (q ≡ shrink)
    → (outcome t n q ≡ refused AlreadyResizing) ↔ (MayChange t n × Resizing t)

abbrev pub SeventeenExactly : Type 0
SeventeenExactly = (t : Table) (n : ℕ) → (outcome t n shrink ≡ refused TooSmall) ↔ (MayChange t n × (word t 4 ≡ 1))

-- ==== "A shrinking table becomes a growing one with k + 1, and a growing one a shrinking one with k − 1, by one state store."

abbrev pub BackStores : Type 0
BackStores =
    (t : Table) (n k : ℕ) → MayChange t n
    → (word t 4 ≡ 512 + k → outcome t n back ≡ listed ((4, 256 + (k + 1)) ∷ []))
    × (word t 4 ≡ 256 + k → k < 256 → outcome t n back ≡ listed ((4, 512 + (k - 1)) ∷ []))

-- no bucket changes hands by it: each level goes on under another name
abbrev pub LevelsTurn : Type 0
LevelsTurn =
    (t : Table) (l : List ℕ) → Accepted (change_result t l back).0 → (j : ℕ)
    → let u = after t (whole back l) in
    (Shrinking t → (LevelHas t 0 j ↔ LevelHas u 1 j) × (LevelHas t 1 j ↔ LevelHas u 2 j) × (LevelHas t 2 j ↔ LevelHas u 0 j))
    × (Growing t → (LevelHas t 0 j ↔ LevelHas u 2 j) × (LevelHas t 1 j ↔ LevelHas u 0 j) × (LevelHas t 2 j ↔ LevelHas u 1 j))

-- turned back twice, a table is what it was, word for word
abbrev pub TurnedTwice : Type 0
TurnedTwice =
    (t : Table) (l m : List ℕ) → Accepted (change_result t l back).0 → 20 ≤ length m
    → let u = after t (whole back l) in Accepted (change_result u m back).0 × (after u (whole back m) ≡ t)

-- ==== "At rest it, step and end give 8."

abbrev pub EightExactly : Type 0
EightExactly =
    (t : Table) (n : ℕ) (q : Call) → (q ≡ back) ⊎ ((q ≡ end) ⊎ ((b : ℕ) × (q ≡ step_from b)))
    → (outcome t n q ≡ refused NotResizing) ↔ (MayChange t n × AtRest t)

-- ==== "40N + 2 for one whole shrink": twice what a growth may spend, and 20N + 2 would be too few. N = 4 and 16 items spend 87 stores (`ResizeCases`)

abbrev pub TwentyTooFew : Type 0
TwentyTooFew = SpendsAtMost 20 shrink → ⊥

-- which calls are its own, so that their stores are counted, and those of no others

abbrev pub Own : Call → Type 0
Own begin = Unit {0}
Own shrink = Unit {0}
Own back = Unit {0}
Own (step_from b) = Unit {0}
Own end = Unit {0}
Own (query key) = ⊥
Own (insert key r) = ⊥
Own (update key r) = ⊥
Own (delete key) = ⊥
Own recover = ⊥

abbrev pub OwnStoresCount : Type 0
OwnStoresCount =
    (t : Table) (q : Call) (l : List ℕ) (es : List Event)
    → let u = after t (whole q l) in
    (Own q → spent t (whole q l ∷ es) ≡ reported (change_result t l q).0 + spent u es)
    × ((Own q → ⊥) → spent t (whole q l ∷ es) ≡ spent u es)
