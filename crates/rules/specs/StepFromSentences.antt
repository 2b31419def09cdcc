-- The step that goes on, `step_from`, a second time: its sentences in facts about the items of the interim level, without the search for
-- one, and what they come to in a pass of such steps. They are types, as those of `Demands` are: a law of proofs/ that proves one bears its
-- name, beginning with a small letter. "refusals 1, 2, 3, 8": `RefusalsInOrder` of `Demands`. "It counts among growth's own calls in the
-- 20N + 2 statement, and in every statement about cuts and maps that the step has": `GrowthBound`, `CutsAreSafe`, `StepAnswers` and the others
-- of `Demands` that speak of every call.
-- Assumes nothing.
use Rattle.std.specs.Prelude.{ℕ, ◌+◌, ◌-◌, ◌*◌, ◌≤◌, ◌≡◌, Bool, cond, List, [], ◌∷◌, map, ◌⊎◌, ◌↔◌, length, eqb}
use Rattle.rules.specs.Choice.{any, select, from}
use Rattle.rules.specs.Words.{Table, header_of, key_in, record_in}
use Rattle.rules.specs.Placing.{placing}
use Rattle.rules.specs.Stores.{Store, made}
use Rattle.rules.specs.Soundness.{SoundTable}
use Rattle.rules.specs.Answers.{number_of, stepped_from_means}
use Rattle.rules.specs.Calls.{refused, listed, interim_items, interim_bucket, has_place, insert, step_from, step, outcome}
use Rattle.rules.specs.Results.{change_result, step_from_result, step_result}
use Rattle.rules.specs.NoPlace.{NoPlaceFor}
use Rattle.rules.specs.Histories.{whole, after, Accepted}
use Rattle.rules.specs.Demands.{Resizing, InterimItem, None, NoInterim, interim_size, InterimFrom, FirstWithPlace, NoneHasPlace, StepWritten}
use Rattle.rules.specs.StepSentences.{MayStep}
use Rattle.rules.specs.declared.Header.{Header}
use Rattle.rules.specs.declared.Record.{Record}
use Rattle.rules.specs.declared.Slot.{Slot}
use Rattle.rules.specs.declared.Refusal.{Refusal}
use Rattle.rules.specs.declared.Refusal.TheVariants.{NoPlace, InterimEmpty}
use Rattle.std.specs.Prelude.{Ok}

-- ==== "in every statement about cuts and maps that the step has": its answer and its list are those of the call that they speak of

abbrev pub StepFromIsACall : Type 0
StepFromIsACall =
    (t : Table) (b : ℕ) (l : List ℕ) → ((step_from_result t b l).0.stepped.change ≡ (change_result t l (step_from b)).0)
    × ((step_from_result t b l).1 ≡ (change_result t l (step_from b)).1)

-- ==== "with 0 it IS the step"; "step .. is defined as, and proved to be, step_from with 0"

abbrev pub ZeroIsTheStep : Type 0
ZeroIsTheStep =
    (t : Table) (l : List ℕ) → (outcome t (length l) (step_from 0) ≡ outcome t (length l) step)
    × ((step_from_result t 0 l).0.stepped ≡ (step_result t l).0) × ((step_from_result t 0 l).1 ≡ (step_result t l).1)
    × ((x : Slot) → InterimFrom t 0 x ↔ InterimItem t x)

-- ==== "It takes the first item from there on that has a place, answers its stores, its placing and the bucket (counted the same) in which
-- the item stood, to go on from"

pub record Takes (t : Table) (b : ℕ) (l : List ℕ) (x : Slot) : Type 0 where
  pub stores : List Store
  pub list : outcome t (length l) (step_from b) ≡ listed stores
  pub written : StepWritten t (header_of t) x stores
  pub answer : (step_from_result t b l).0.stepped ≡ record { change = Ok (length stores); placing = placing t (header_of t) (key_in t x) }
  pub bucket : interim_size t - 1 + (step_from_result t b l).0.bucket ≡ x.bucket

abbrev pub TakesTheFirstFrom : Type 0
TakesTheFirstFrom =
    (t : Table) (b : ℕ) (l : List ℕ) (x : Slot) → MayStep t (length l) → FirstWithPlace t (InterimFrom t b) x → Takes t b l x

-- ==== "11 when no item stands from there on; 6 when some do and none has a place"

abbrev pub ElevenFromExactly : Type 0
ElevenFromExactly = (t : Table) (n b : ℕ) → (outcome t n (step_from b) ≡ refused InterimEmpty) ↔ (MayStep t n × None (InterimFrom t b))

abbrev pub SixFromExactly : Type 0
SixFromExactly = (t : Table) (n b : ℕ) → (outcome t n (step_from b) ≡ refused NoPlace) ↔ (MayStep t n × NoneHasPlace t (InterimFrom t b))

-- ==== "the bucket told with a refusal is 0": the stores, too, and no placing is told

abbrev pub RefusedTellsZero : Type 0
RefusedTellsZero =
    (t : Table) (b : ℕ) (l : List ℕ) (r : Refusal) → outcome t (length l) (step_from b) ≡ refused r
    → stepped_from_means (step_from_result t b l).0 ≡ record { number = number_of r; values = 0 ∷ 0 ∷ [] }

-- ==== "A start past the level is 11."

abbrev pub PastTheLevel : Type 0
PastTheLevel = (t : Table) (n b : ℕ) → MayStep t n → interim_size t ≤ b → outcome t n (step_from b) ≡ refused InterimEmpty

-- ==== "where no interim item stands before the start, it answers as the step does"

abbrev pub AsTheStep : Type 0
AsTheStep =
    (t : Table) (b : ℕ) (l : List ℕ) → ((x : Slot) → InterimItem t x → InterimFrom t b x)
    → (outcome t (length l) (step_from b) ≡ outcome t (length l) step) × (step_from_result t b l ≡ step_from_result t 0 l)

-- ==== "a step gives no place to an item that had none": nor to any key

abbrev pub StuckStaysStuck : Type 0
StuckStaysStuck =
    (t : Table) (n b : ℕ) (stores : List Store) → SoundTable t → outcome t n (step_from b) ≡ listed stores
    → (key : ℕ) → NoPlaceFor t (header_of t) key → NoPlaceFor (made t stores) (header_of (made t stores)) key

-- "Inserts never go to the interim level, so what was passed once stays passed": and they give no place to what had none
abbrev pub InsertsGiveNoPlace : Type 0
InsertsGiveNoPlace =
    (t : Table) (n key : ℕ) (r : Record) (stores : List Store) → SoundTable t → outcome t n (insert key r) ≡ listed stores
    → ((x : Slot) → InterimItem (made t stores) x ↔ InterimItem t x)
    × ((x : Slot) → InterimItem t x → (key_in (made t stores) x ≡ key_in t x) × (record_in (made t stores) x ≡ record_in t x))
    × ((other : ℕ) → NoPlaceFor t (header_of t) other → NoPlaceFor (made t stores) (header_of (made t stores)) other)

-- ==== "with no other call between, one pass that goes on from the bucket told"

-- each step is lent a list of its own, its stores are made whole, and the next one goes on from the bucket that it told. From table t and
-- bucket b, the steps with the lists ls lead to table u, and the next would begin at bucket c
abbrev pub Pass : Table → ℕ → List (List ℕ) → Table → ℕ → Type 0
Pass t b [] u c = (t ≡ u) × (b ≡ c)
Pass t b (l ∷ ls) u c = Accepted (change_result t l (step_from b)).0 × Pass (after t (whole (step_from b) l)) (step_from_result t b l).0.bucket ls u c

-- it "ends": it has no more steps than the level has slots
abbrev pub PassEnds : Type 0
PassEnds = (t u : Table) (b c : ℕ) (ls : List (List ℕ)) → Pass t b ls u c → length ls ≤ 4 * interim_size t

-- it ends "with an empty interim level or with items left of which none has a place"
abbrev pub PassPlacesAll : Type 0
PassPlacesAll =
    (t u : Table) (c n : ℕ) (ls : List (List ℕ)) (r : Refusal) → SoundTable t → Resizing t → Pass t 0 ls u c
    → 20 ≤ n → outcome u n (step_from c) ≡ refused r
    → (NoInterim u × (r ≡ InterimEmpty)) ⊎ (NoneHasPlace u (InterimItem u) × ((r ≡ InterimEmpty) ⊎ (r ≡ NoPlace)))

-- what a step looks at: bucket after bucket from its start on, each counted from 0 in the level, until one has an item that has a place
unfoldable pub places_any : Table → Header → ℕ → Bool
places_any t h i = any (map (has_place t h) (select (λ (x : Slot). eqb (interim_bucket h.state x) i) (interim_items t h)))

abbrev pub up_to : (ℕ → Bool) → List ℕ → List ℕ
up_to p [] = []
up_to p (i ∷ is) = i ∷ cond (p i) [] (up_to p is)

unfoldable pub looked_at : Table → ℕ → List ℕ
looked_at t b = up_to (places_any t (header_of t)) (from b (interim_size t - b))

-- that is, from its start to the bucket that it tells, both counted; and to the level's last where it gives 6 or 11
abbrev pub LooksUntilFound : Type 0
LooksUntilFound =
    (t : Table) (b : ℕ) (l : List ℕ)
    → ((stores : List Store) → outcome t (length l) (step_from b) ≡ listed stores
    → looked_at t b ≡ from b ((step_from_result t b l).0.bucket + 1 - b))
    × (((outcome t (length l) (step_from b) ≡ refused InterimEmpty) ⊎ (outcome t (length l) (step_from b) ≡ refused NoPlace))
    → looked_at t b ≡ from b (interim_size t - b))

-- the buckets looked at in a pass, with those of the step that ends it; a bucket counts for each step that looks at it
abbrev pub looks : Table → ℕ → List (List ℕ) → ℕ
looks t b [] = length (looked_at t b)
looks t b (l ∷ ls) = length (looked_at t b) + looks (after t (whole (step_from b) l)) (step_from_result t b l).0.bucket ls

-- "a pass of s steps over a level of M buckets looks at no more than M + s interim buckets"
abbrev pub PassLooksAtFew : Type 0
PassLooksAtFew = (t u : Table) (b c : ℕ) (ls : List (List ℕ)) → Pass t b ls u c → looks t b ls ≤ interim_size t + length ls
