-- Document 02, request b), a second time: its sentences in facts about the items of the interim level, without the search for one. They
-- are types, as those of `Demands` are: a law of proofs/ that proves one bears its name, beginning with a small letter. "The ten-store and
-- 20N + 2 bounds stay": `StoreNumbers` and `GrowthBound` of `Demands`. "E11 still answers 6": `Examples`.
-- Assumes nothing.
use Rattle.std.specs.Prelude.{ℕ, ◌≡◌, List, ◌↔◌}
use Rattle.rules.specs.Words.{Table, header_of, key_in}
use Rattle.rules.specs.Stores.{Store}
use Rattle.rules.specs.Calls.{refused, listed, step, outcome}
use Rattle.rules.specs.NoPlace.{NoPlaceFor}
use Rattle.rules.specs.Demands.{Resizing, MayChange, InterimItem, NoInterim, FirstWithPlace, NoneHasPlace, StepWritten}
use Rattle.rules.specs.declared.Slot.{Slot}
use Rattle.rules.specs.declared.Refusal.TheVariants.{NoPlace, InterimEmpty}

-- refusals 1, 2, 3 and 8 are not given: on every such table, sound or not, with a list of n words
pub record MayStep (t : Table) (n : ℕ) : Type 0 where
  pub change : MayChange t n
  pub resizing : Resizing t

-- ==== "The step must take the first interim item, in the same order, that has a place": the stores are those of this item's placing, and
-- its token is the one cleared

abbrev pub StepTakesTheFirst : Type 0
StepTakesTheFirst =
    (t : Table) (n : ℕ) (x : Slot) → MayStep t n → FirstWithPlace t (InterimItem t) x
    → (stores : List Store) × (outcome t n step ≡ listed stores) × StepWritten t (header_of t) x stores

-- "One stubborn item blocks a whole growth": no longer. Where any interim item has a place, the step is accepted
abbrev pub NoItemBlocks : Type 0
NoItemBlocks =
    (t : Table) (n : ℕ) (x : Slot) → MayStep t n → InterimItem t x → (NoPlaceFor t (header_of t) (key_in t x) → ⊥)
    → (stores : List Store) × (outcome t n step ≡ listed stores)

-- ==== "Refusal 6 is then given exactly when interim items remain and none has one"

abbrev pub SixExactly : Type 0
SixExactly = (t : Table) (n : ℕ) → (outcome t n step ≡ refused NoPlace) ↔ (MayStep t n × NoneHasPlace t (InterimItem t))

-- ==== "11 keeps its meaning": "interim empty"

abbrev pub ElevenExactly : Type 0
ElevenExactly = (t : Table) (n : ℕ) → (outcome t n step ≡ refused InterimEmpty) ↔ (MayStep t n × NoInterim t)

-- the two conditions exclude each other, so that no order of 6 and 11 is needed
abbrev pub SixIsNotEleven : Type 0
SixIsNotEleven = (t : Table) → NoneHasPlace t (InterimItem t) → NoInterim t → ⊥
