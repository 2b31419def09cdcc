-- The user's three demands as statements over the rules, each under its sentence. They are types: a law of proofs/ that
-- proves one bears its name, beginning with a small letter.
-- "The map after" is always the plain map's answer to a call (`map_after`), never the map of the table with the call's own
-- list made.
-- Assumes nothing.
use Rattle.std.specs.Prelude.{ℕ, ◌+◌, ◌-◌, ◌*◌, ◌%◌, ◌^◌, ◌≤◌, ◌<◌, ◌≡◌, true, false, cond, ◌⊎◌, ◌↔◌, length, take, drop, eqb}
use mathlib.Core.List.{List, [], ◌∷◌, ◌++◌, Memᴰ as In}
use Rattle.std.proofs.Math.Option.{Option, none, some}
use Rattle.rules.specs.Choice.{all}
use Rattle.rules.specs.Words.{Table, word, header_of, GoodHeader, flag_of, logged_of, top, bottom, interim, slots_in, place_of, spot_of, key_in, record_in}
use Rattle.rules.specs.Forms.{GoodForm}
use Rattle.rules.specs.Words.{token_of, show, hide}
use Rattle.rules.specs.Places.{holds, places_of}
use Rattle.rules.specs.Placing.{free_slot, placing}
use Rattle.rules.specs.Stores.{Store, clear_stores, redo_stores, made}
use Rattle.rules.specs.Soundness.{finding, sound_tests, TakenSlot, SoundTable, PlainMap, HasMap, Before, DoubledTable, FlaggedTable}
use Rattle.rules.specs.Answers.{number_of, Meaning, change_means, query_means, stepped_means, verdict_means}
use Rattle.rules.specs.Calls.{Outcome, refused, listed, Call, query, insert, update, delete, begin, shrink, back, step_from, step, end, recover}
use Rattle.rules.specs.Calls.{outcome}
use Rattle.rules.specs.Results.{change_result, step_result, query_result, create_result, make_result}
use Rattle.rules.specs.NoPlace.{NoPlaceFor}
use Rattle.rules.specs.Histories.{Event, whole, cut, after, History, Whole, Recovery, spent, Accepted, OneResizing, NoTurningBack}
use Rattle.rules.specs.declared.State.{State}
use Rattle.rules.specs.declared.Header.{Header}
use Rattle.rules.specs.declared.Place.{Place}
use Rattle.rules.specs.declared.Slot.{Slot}
use Rattle.rules.specs.declared.Record.{Record}
use Rattle.rules.specs.declared.Spot.{Spot}
use Rattle.rules.specs.declared.Placing.{Placing}
use Rattle.rules.specs.declared.Placing.TheVariants.{Free, Move, Nowhere}
use Rattle.rules.specs.declared.Finding.{Finding}
use Rattle.rules.specs.declared.Finding.TheVariants.{Sound, Doubled, Flagged, Neither}
use Rattle.rules.specs.declared.Refusal.{Refusal}
use Rattle.rules.specs.declared.Refusal.TheVariants.{BadHeader, ShortList, FlagSet, KeyPresent, KeyAbsent, NoPlace, AlreadyResizing, NotResizing}
use Rattle.rules.specs.declared.Refusal.TheVariants.{AtCapacity, InterimTaken, InterimEmpty, NoKind, TooSmall}
use Rattle.rules.specs.Answers.{Change, Query, knows, misses}
use Rattle.std.specs.Prelude.{Ok, Err}

-- ==== Demand 1. "Any words, keys and lengths may be handed in."

-- "It writes its stores, in order, to a lent list as pairs: word index, new word": in the list m the i-th store, from 0, stands in
-- words 2i and 2i + 1
abbrev pub StandsIn : List Store → List ℕ → Type 0
StandsIn xs m =
    (before behind : List Store) (x : Store) → xs ≡ before ++ (x ∷ behind)
    → (word m (2 * length before) ≡ x.0) × (word m (2 * length before + 1) ≡ x.1)

-- "A refusal changes no buffer and reports 0 stores. A changing call or recovery that succeeds writes only the list's first
-- 2·stores words": with the stores that it reports. l is the list at entry, m at exit; the table is only read
abbrev pub AnswersBy : Outcome → Change → List ℕ → List ℕ → Type 0
AnswersBy (refused r) a l m = (change_means a ≡ record { number = number_of r; values = 0 ∷ [] }) × (m ≡ l)
AnswersBy (listed xs) a l m =
    (change_means a ≡ record { number = 0; values = length xs ∷ [] }) × (2 * length xs ≤ length l) × (length m ≡ length l)
    × StandsIn xs m × (drop (2 * length xs) m ≡ drop (2 * length xs) l)

abbrev pub ChangeAnswers : Type 0
ChangeAnswers = (t : Table) (l : List ℕ) (q : Call) → AnswersBy (outcome t (length l) q) (change_result t l q).0 l (change_result t l q).1

-- create: 13 exactly when "c, first k (1 to c), length or a multiplier" is bad, or the form is "any but 1 and 2", and then the words stay
pub record GoodCreation (size form c k mul1 mul2 : ℕ) : Type 0 where
  pub forms : GoodForm form
  pub capacity : (1 ≤ c) × (c ≤ 20)
  pub exponent : (1 ≤ k) × (k ≤ c)
  pub long : size ≡ 9 + 13 * (2 ^ (c + 1) - 1)
  pub odd1 : mul1 % 2 ≡ 1
  pub odd2 : mul2 % 2 ≡ 1

-- "Creation zeroes all words and writes the header."
pub record CreatedWords (size f c k mul1 mul2 : ℕ) (u : Table) : Type 0 where
  pub long : length u ≡ size
  pub form : word u 0 ≡ f
  pub capacity : word u 1 ≡ c
  pub multiplier1 : word u 2 ≡ mul1
  pub multiplier2 : word u 3 ≡ mul2
  pub state : word u 4 ≡ k
  pub zeros : (i : ℕ) → 5 ≤ i → word u i ≡ 0

abbrev pub CreateAnswers : Type 0
CreateAnswers =
    (t : Table) (form c k mul1 mul2 : ℕ)
    → (GoodCreation (length t) form c k mul1 mul2 × (verdict_means (create_result t form c k mul1 mul2).0 ≡ record { number = 0; values = [] })
    × CreatedWords (length t) form c k mul1 mul2 (create_result t form c k mul1 mul2).1)
    ⊎ ((GoodCreation (length t) form c k mul1 mul2 → ⊥) × (verdict_means (create_result t form c k mul1 mul2).0 ≡ record { number = 13; values = [] })
    × ((create_result t form c k mul1 mul2).1 ≡ t))

-- "n pairs are not in the list, or an index among them is outside the table", and exactly then
abbrev pub Outside : Table → List ℕ → ℕ → Type 0
Outside t l n = (length l < 2 * n) ⊎ ((i : ℕ) × (i < n) × (length t ≤ word l (2 * i)))

-- "A separate call makes the first n stores of a list."
pub record MakesFirst (t : Table) (l : List ℕ) (n : ℕ) (u : Table) : Type 0 where
  pub stores : List Store
  pub number : length stores ≡ n
  pub list : StandsIn stores l
  pub result : u ≡ made t stores

abbrev pub MakeAnswers : Type 0
MakeAnswers =
    (t : Table) (l : List ℕ) (n : ℕ)
    → (Outside t l n × (verdict_means (make_result t l n).0 ≡ record { number = 14; values = [] }) × ((make_result t l n).1 ≡ t))
    ⊎ ((Outside t l n → ⊥) × (verdict_means (make_result t l n).0 ≡ record { number = 0; values = [] }) × MakesFirst t l n (make_result t l n).1)

-- "phase 0 at rest, 1 growing", and 2 shrinking; "Other states are bad." Growing or shrinking, a table is resizing
abbrev pub AtRest : Table → Type 0
AtRest t = (header_of t).state.phase ≡ 0

abbrev pub Resizing : Table → Type 0
Resizing t = AtRest t → ⊥

abbrev pub Growing : Table → Type 0
Growing t = (header_of t).state.phase ≡ 1

abbrev pub Shrinking : Table → Type 0
Shrinking t = (header_of t).state.phase ≡ 2

-- "checks its own input": when each refusal is given, in facts. The key stands in a probed bucket
abbrev pub Held : Table → ℕ → Type 0
Held t key = (p : Place) × (x : Slot) × In p (places_of (header_of t) key) × In x (slots_in p) × (holds t (header_of t) key x ≡ true)

-- the first slot that holds it: "Probe order: top, bottom, interim; in each, first place, then second if different; slots 0 to 3."
abbrev pub NoneHolds : Table → ℕ → List Place → Type 0
NoneHolds t key ps = (p : Place) → In p ps → (x : Slot) → In x (slots_in p) → holds t (header_of t) key x ≡ false

pub record FirstHolder (t : Table) (key : ℕ) (slot : Slot) : Type 0 where
  pub before : List Place
  pub place : Place
  pub behind : List Place
  pub order : places_of (header_of t) key ≡ before ++ (place ∷ behind)
  pub none_before : NoneHolds t key before
  pub here : In slot (slots_in place)
  pub holding : holds t (header_of t) key slot ≡ true
  pub first : (y : Slot) → In y (slots_in place) → y.slot < slot.slot → holds t (header_of t) key y ≡ false

-- an item of the interim level; and none
pub record InterimItem (t : Table) (x : Slot) : Type 0 where
  pub item : TakenSlot t x
  pub level : x.level ≡ interim

abbrev pub None : (Slot → Type 0) → Type 0
None Items = (x : Slot) → Items x → ⊥

abbrev pub NoInterim : Table → Type 0
NoInterim t = None (InterimItem t)

-- how many buckets the interim level has: "a quarter" of 2^k; while shrinking, as the old top, twice as many as 2^k
abbrev pub interim_size : Table → ℕ
interim_size t = cond (eqb (header_of t).state.phase 2) (2 * 2 ^ (header_of t).state.k) (2 ^ ((header_of t).state.k - 2))

-- the step that goes on: an interim item "from there on", that is in the level's bucket b, "counted from 0 in the level", or in a later one.
-- "A level of M buckets .. is always buckets M − 1 to 2M − 2"
pub record InterimFrom (t : Table) (b : ℕ) (x : Slot) : Type 0 where
  pub item : InterimItem t x
  pub start : interim_size t - 1 + b ≤ x.bucket

-- request b), "the first interim item, in the same order, that has a place": it has one, and every earlier one has none. "No place" is
-- meant as for insert; the order is "bucket, then slot ascending". Of all interim items, or of those from a bucket on
pub record FirstWithPlace (t : Table) (Items : Slot → Type 0) (x : Slot) : Type 0 where
  pub item : Items x
  pub place : NoPlaceFor t (header_of t) (key_in t x) → ⊥
  pub earlier : (y : Slot) → Items y → Before y x → NoPlaceFor t (header_of t) (key_in t y)

-- request b), "interim items remain and none has one"
pub record NoneHasPlace (t : Table) (Items : Slot → Type 0) : Type 0 where
  pub remain : (x : Slot) × Items x
  pub stuck : (x : Slot) → Items x → NoPlaceFor t (header_of t) (key_in t x)

pub record OfNoKind (t : Table) : Type 0 where
  pub unsound : SoundTable t → ⊥
  pub undoubled : (x y : Slot) → DoubledTable t x y → ⊥
  pub unflagged : (x : Slot) → FlaggedTable t x → ⊥

-- "At rest 1 ≤ k ≤ c, while growing 2 ≤ k ≤ c. Other states are bad.", by the word w that holds k + 256·phase; request f): "States with phase 2
-- need 1 ≤ k < c."
abbrev pub GoodStateWord : ℕ → ℕ → Type 0
GoodStateWord c w = ((1 ≤ w) × (w ≤ c)) ⊎ (((258 ≤ w) × (w ≤ 256 + c)) ⊎ ((513 ≤ w) × (w < 512 + c)))

-- "length, form, c, multipliers or state", by the words themselves
pub record HeaderWords (t : Table) : Type 0 where
  pub long : length t ≡ 9 + 13 * (2 ^ (word t 1 + 1) - 1)
  pub form : GoodForm (word t 0)
  pub capacity : (1 ≤ word t 1) × (word t 1 ≤ 20)
  pub odd1 : word t 2 % 2 ≡ 1
  pub odd2 : word t 3 % 2 ≡ 1
  pub state : GoodStateWord (word t 1) (word t 4)

abbrev pub bad_header : Table → Type 0 × Refusal
bad_header t = ((HeaderWords t → ⊥), BadHeader)

abbrev pub flag_not_zero : Table → Type 0 × Refusal
flag_not_zero t = ((word t 5 ≡ 0 → ⊥), FlagSet)

abbrev pub changing_refusals : Table → ℕ → List (Type 0 × Refusal)
changing_refusals t n = bad_header t ∷ (n < 20, ShortList) ∷ flag_not_zero t ∷ []

-- none of these: what is refused then has another reason
pub record MayChange (t : Table) (n : ℕ) : Type 0 where
  pub header : HeaderWords t
  pub list : 20 ≤ n
  pub flag : word t 5 ≡ 0

abbrev pub refusals : Table → ℕ → Call → List (Type 0 × Refusal)
refusals t n (query key) = bad_header t ∷ flag_not_zero t ∷ ((Held t key → ⊥), KeyAbsent) ∷ []
refusals t n (insert key r) = changing_refusals t n ++ ((Held t key, KeyPresent) ∷ (NoPlaceFor t (header_of t) key, NoPlace) ∷ [])
refusals t n (update key r) = changing_refusals t n ++ (((Held t key → ⊥), KeyAbsent) ∷ [])
refusals t n (delete key) = changing_refusals t n ++ (((Held t key → ⊥), KeyAbsent) ∷ [])
refusals t n begin = changing_refusals t n ++ ((Resizing t, AlreadyResizing) ∷ ((header_of t).state.k ≡ (header_of t).c, AtCapacity) ∷ [])
refusals t n shrink = changing_refusals t n ++ ((Resizing t, AlreadyResizing) ∷ ((header_of t).state.k < 2, TooSmall) ∷ [])
refusals t n back = changing_refusals t n ++ ((AtRest t, NotResizing) ∷ [])
refusals t n (step_from b) = changing_refusals t n
    ++ ((AtRest t, NotResizing) ∷ (None (InterimFrom t b), InterimEmpty) ∷ (NoneHasPlace t (InterimFrom t b), NoPlace) ∷ [])
refusals t n end = changing_refusals t n ++ ((AtRest t, NotResizing) ∷ (((x : Slot) × InterimItem t x), InterimTaken) ∷ [])
refusals t n recover = bad_header t ∷ (n < 20, ShortList) ∷ (OfNoKind t, NoKind) ∷ []

-- the first that holds refuses; where none does, the call is accepted
abbrev pub FirstRefuses : List (Type 0 × Refusal) → Outcome → Type 0
FirstRefuses [] o = (stores : List Store) × (o ≡ listed stores)
FirstRefuses (x ∷ xs) o = (x.0 × (o ≡ refused x.1)) ⊎ ((x.0 → ⊥) × FirstRefuses xs o)

-- "Order: 1, 2, 3, then the rest; for insert 4 before 6; for begin 7 before 9; for step and end 8 first." Request f): "else new refusal 17; a
-- table in phase 1 or 2 refuses both begins with 7, tested first"; "At rest it, step and end give 8."
abbrev pub RefusalsInOrder : Type 0
RefusalsInOrder = (t : Table) (n : ℕ) (q : Call) → FirstRefuses (refusals t n q) (outcome t n q)

-- step answers as the call step does; where it is accepted it tells the placing of the first interim item that has a place, else none
abbrev pub StepIsACall : Type 0
StepIsACall =
    (t : Table) (l : List ℕ) → ((step_result t l).0.change ≡ (change_result t l step).0) × ((step_result t l).1 ≡ (change_result t l step).1)
    × (((stepped_means (step_result t l).0).number ≡ 0 → ⊥) → (stepped_means (step_result t l).0).values ≡ 0 ∷ [])
    × ((stepped_means (step_result t l).0).number ≡ 0 → (x : Slot) → FirstWithPlace t (InterimItem t) x
    → (step_result t l).0.placing ≡ placing t (header_of t) (key_in t x))

-- query answers by the call query's outcome. "Query returns zeros with 5 and the full probe count; with 1 or 3 zeros and
-- count 0."
abbrev pub QueryAs : Outcome → Meaning → Type 0
QueryAs (listed stores) a = a.number ≡ 0
QueryAs (refused e) a = (n : ℕ) × (a ≡ record { number = number_of e; values = 0 ∷ 0 ∷ n ∷ 0 ∷ 0 ∷ [] }) × ((e ≡ KeyAbsent) ⊎ (n ≡ 0))

abbrev pub QueryIsACall : Type 0
QueryIsACall = (t : Table) (n key : ℕ) → QueryAs (outcome t n (query key)) (query_means (query_result t key))

-- "stays within its buffers": every store that a call lists lies in the table
abbrev pub StoresInside : Type 0
StoresInside = (t : Table) (n : ℕ) (q : Call) (xs : List Store) → outcome t n q ≡ listed xs → (x : Store) → In x xs → x.0 < length t

-- "a token store is always below 16": of form 1
abbrev pub TokenStoresLow : Type 0
TokenStoresLow =
    (t : Table) (n : ℕ) (q : Call) (xs : List Store) → outcome t n q ≡ listed xs → word t 0 ≡ 1
    → (x : Store) → In x xs → (j : ℕ) → x.0 ≡ 9 + 13 * j → x.1 < 16

-- ==== Demand 2. "On a sound table, with a list of 20 words or more, query, insert, update and delete answer as a plain map
-- does, and growing keeps the map."

-- soundness as facts is soundness as a test
abbrev pub SoundnessIsTested : Type 0
SoundnessIsTested = (t : Table) → (all (sound_tests t) ≡ true) ↔ SoundTable t

-- "Its map is its taken slots": there is one, and one only
abbrev pub MapExists : Type 0
MapExists = (t : Table) → SoundTable t → (m : PlainMap) × HasMap t m × ((n : PlainMap) → HasMap t n → (key : ℕ) → n key ≡ m key)

-- a created table is sound, at rest with the form, c, k and multipliers asked for, and empty
abbrev pub CreatedIsEmpty : Type 0
CreatedIsEmpty =
    (t u : Table) (form c k mul1 mul2 : ℕ) → create_result t form c k mul1 mul2 ≡ (Ok tt, u)
    → SoundTable u × (header_of u ≡ record { form = form; c = c; mul1 = mul1; mul2 = mul2; state = record { k = k; phase = 0 } })
    × HasMap u (λ (key : ℕ). none)

-- what a call makes of a plain map: plus the key, changed at the key, minus the key, or the same
abbrev pub map_with : PlainMap → ℕ → Option Record → PlainMap
map_with m key v = λ (k : ℕ). cond (eqb k key) v (m k)

abbrev pub map_after : Call → PlainMap → PlainMap
map_after (insert key r) m = map_with m key (some r)
map_after (update key r) m = map_with m key (some r)
map_after (delete key) m = map_with m key none
map_after (query key) m = m
map_after begin m = m
map_after shrink m = m
map_after back m = m
map_after (step_from b) m = m
map_after end m = m
map_after recover m = m

unfoldable pub with_state : Header → State → Header
with_state h s = record { form = h.form; c = h.c; mul1 = h.mul1; mul2 = h.mul2; state = s }

-- an accepted call: its stores, made in order, give a sound table with the map m and the state s; c and the multipliers stay
pub record Gives (t : Table) (o : Outcome) (m : PlainMap) (s : State) : Type 0 where
  pub stores : List Store
  pub answer : o ≡ listed stores
  pub sound : SoundTable (made t stores)
  pub map : HasMap (made t stores) m
  pub header : header_of (made t stores) ≡ with_state (header_of t) s

-- the premises: a sound table t with the map m, and a list of n words
pub record Given (t : Table) (m : PlainMap) (n : ℕ) : Type 0 where
  pub sound : SoundTable t
  pub map : HasMap t m
  pub room : 20 ≤ n

-- query: the map's record for the map's keys, wherever they stand, and 5 for the others
abbrev pub AnswersRecord : Query → Record → Type 0
AnswersRecord a r = (x : Spot) × (n : ℕ) × (a ≡ knows r x n)

abbrev pub QueryBy : Option Record → Query → Type 0
QueryBy (some r) a = AnswersRecord a r
QueryBy none a = (n : ℕ) × (a ≡ misses KeyAbsent n)

abbrev pub QueryAnswers : Type 0
QueryAnswers = (t : Table) (m : PlainMap) → SoundTable t → HasMap t m → (key : ℕ) → QueryBy (m key) (query_result t key)

-- insert: 4 for the map's keys. "For an absent key, insert says "no place" exactly when every candidate slot is taken and no
-- single permitted move frees one."
abbrev pub InsertBy : Table → PlainMap → ℕ → Record → Option Record → Outcome → Type 0
InsertBy t m key r (some v) o = o ≡ refused KeyPresent
InsertBy t m key r none o =
    (NoPlaceFor t (header_of t) key × (o ≡ refused NoPlace))
    ⊎ ((NoPlaceFor t (header_of t) key → ⊥) × Gives t o (map_after (insert key r) m) (header_of t).state)

abbrev pub InsertAnswers : Type 0
InsertAnswers = (t : Table) (m : PlainMap) (n : ℕ) → Given t m n → (key : ℕ) (r : Record) → InsertBy t m key r (m key) (outcome t n (insert key r))

-- update and delete: 5 for keys that the map does not have
abbrev pub ChangeBy : Table → PlainMap → Option Record → Outcome → Type 0
ChangeBy t m (some v) o = Gives t o m (header_of t).state
ChangeBy t m none o = o ≡ refused KeyAbsent

abbrev pub UpdateAnswers : Type 0
UpdateAnswers = (t : Table) (m : PlainMap) (n : ℕ) → Given t m n → (key : ℕ) (r : Record)
    → ChangeBy t (map_after (update key r) m) (m key) (outcome t n (update key r))

abbrev pub DeleteAnswers : Type 0
DeleteAnswers = (t : Table) (m : PlainMap) (n : ℕ) → Given t m n → (key : ℕ) → ChangeBy t (map_after (delete key) m) (m key) (outcome t n (delete key))

-- growing keeps the map, and so do shrinking and turning back
abbrev pub BeginAnswers : Type 0
BeginAnswers =
    (t : Table) (m : PlainMap) (n : ℕ) → Given t m n
    → (Resizing t → outcome t n begin ≡ refused AlreadyResizing)
    × (AtRest t → (header_of t).state.k ≡ (header_of t).c → outcome t n begin ≡ refused AtCapacity)
    × (AtRest t → ((header_of t).state.k ≡ (header_of t).c → ⊥)
    → Gives t (outcome t n begin) (map_after begin m) (record { k = (header_of t).state.k + 1; phase = 1 }))

abbrev pub ShrinkAnswers : Type 0
ShrinkAnswers =
    (t : Table) (m : PlainMap) (n : ℕ) → Given t m n
    → (Resizing t → outcome t n shrink ≡ refused AlreadyResizing)
    × (AtRest t → (header_of t).state.k < 2 → outcome t n shrink ≡ refused TooSmall)
    × (AtRest t → 2 ≤ (header_of t).state.k
    → Gives t (outcome t n shrink) (map_after shrink m) (record { k = (header_of t).state.k - 1; phase = 2 }))

abbrev pub BackAnswers : Type 0
BackAnswers =
    (t : Table) (m : PlainMap) (n : ℕ) → Given t m n
    → (AtRest t → outcome t n back ≡ refused NotResizing)
    × (Shrinking t → Gives t (outcome t n back) (map_after back m) (record { k = (header_of t).state.k + 1; phase = 1 }))
    × (Growing t → Gives t (outcome t n back) (map_after back m) (record { k = (header_of t).state.k - 1; phase = 2 }))

-- after a step that took the item x: the interim items are those before without x; its key and record stand in top or bottom
pub record StepMoves (t u : Table) (x : Slot) : Type 0 where
  pub rest : (y : Slot) → InterimItem u y ↔ (InterimItem t y × (y ≡ x → ⊥))
  pub slot : Slot
  pub stands : TakenSlot u slot
  pub level : (slot.level ≡ top) ⊎ (slot.level ≡ bottom)
  pub key : key_in u slot ≡ key_in t x
  pub value : record_in u slot ≡ record_in t x

abbrev pub StepBy : Table → PlainMap → Slot → Outcome → Type 0
StepBy t m x o = (g : Gives t o (map_after step m) (header_of t).state) × StepMoves t (made t g.stores) x

abbrev pub StepAnswers : Type 0
StepAnswers =
    (t : Table) (m : PlainMap) (n : ℕ) → Given t m n → (b : ℕ)
    → (AtRest t → outcome t n (step_from b) ≡ refused NotResizing)
    × (Resizing t → (None (InterimFrom t b) × (outcome t n (step_from b) ≡ refused InterimEmpty))
    ⊎ ((NoneHasPlace t (InterimFrom t b) × (outcome t n (step_from b) ≡ refused NoPlace))
    ⊎ ((x : Slot) × FirstWithPlace t (InterimFrom t b) x × StepBy t m x (outcome t n (step_from b)))))

abbrev pub EndAnswers : Type 0
EndAnswers =
    (t : Table) (m : PlainMap) (n : ℕ) → Given t m n
    → (AtRest t → outcome t n end ≡ refused NotResizing)
    × (Resizing t → ((x : Slot) × InterimItem t x × (outcome t n end ≡ refused InterimTaken))
    ⊎ (NoInterim t × Gives t (outcome t n end) (map_after end m) (record { k = (header_of t).state.k; phase = 0 })))

-- recovery: "sound: no stores"
abbrev pub RecoverAnswers : Type 0
RecoverAnswers = (t : Table) (m : PlainMap) (n : ℕ) → Given t m n → outcome t n recover ≡ listed []

-- ==== Demand 3, "made in order .."

-- "the sound table that document 01 fixes": the stores are those of its table, word by word and in its order, on every table.
-- "Bucket j starts at word 9 + 13j: one token word, then four slots of three words: key, function, place. Slot s starts at offset
-- 1 + 3s."
abbrev pub bucket_start : ℕ → ℕ
bucket_start j = 9 + 13 * j

abbrev pub slot_start : Slot → ℕ
slot_start x = 9 + 13 * x.bucket + (1 + 3 * x.slot)

-- a record put to a slot whose bucket has the token word w
abbrev pub record_stores : Header → ℕ → Slot → ℕ → Record → List Store
record_stores h w x key r =
    (slot_start x, key) ∷ (slot_start x + 1, r.function) ∷ (slot_start x + 2, r.place)
    ∷ (bucket_start x.bucket, show h w x.slot key) ∷ []

-- "insert, free slot", or "insert with move": its first five stores, with the token word that the fifth leaves, then the rest
abbrev pub PlacingWritten : Table → Header → ℕ → Record → Placing → List Store → Type 0
PlacingWritten t h key r (Free x) xs = xs ≡ record_stores h (token_of t x.bucket) x key r
PlacingWritten t h key r (Move from to) xs =
    let w = hide h (token_of t from.bucket) from.slot in
    xs ≡ record_stores h (token_of t to.bucket) to (key_in t from) (record_in t from)
    ++ ((bucket_start from.bucket, w) ∷ record_stores h w from key r)
PlacingWritten t h key r Nowhere xs = ⊥

-- "update, bucket has a free slot", or "update, bucket full"
abbrev pub UpdateWritten : Table → Header → Slot → ℕ → Record → Option Slot → List Store → Type 0
UpdateWritten t h x key r (some y) xs = xs ≡ record_stores h (hide h (token_of t x.bucket) x.slot) y key r
UpdateWritten t h x key r none xs =
    xs ≡ (6, slot_start x) ∷ (7, r.function) ∷ (8, r.place) ∷ (5, 1)
    ∷ (slot_start x + 1, r.function) ∷ (slot_start x + 2, r.place) ∷ (5, 0) ∷ []

-- "growth step": the placing of the item x, "then its interim token cleared"
abbrev pub StepWritten : Table → Header → Slot → List Store → Type 0
StepWritten t h x xs =
    (ys : List Store) × PlacingWritten t h (key_in t x) (record_in t x) (placing t h (key_in t x)) ys
    × (xs ≡ ys ++ ((bucket_start x.bucket, hide h (token_of t x.bucket) x.slot) ∷ []))

abbrev pub RecoveryWritten : Table → Header → Finding → List Store → Type 0
RecoveryWritten t h Sound xs = xs ≡ []
RecoveryWritten t h (Doubled kept later) xs = xs ≡ (bucket_start later.bucket, hide h (token_of t later.bucket) later.slot) ∷ []
RecoveryWritten t h (Flagged x) xs = xs ≡ (slot_start x + 1, word t 7) ∷ (slot_start x + 2, word t 8) ∷ (5, 0) ∷ []
RecoveryWritten t h Neither xs = ⊥

abbrev pub Written : Table → Header → Call → List Store → Type 0
Written t h (query key) xs = xs ≡ []
Written t h (insert key r) xs = PlacingWritten t h key r (placing t h key) xs
Written t h (update key r) xs = (x : Slot) × FirstHolder t key x × UpdateWritten t h x key r (free_slot t h (place_of x)) xs
Written t h (delete key) xs = (x : Slot) × FirstHolder t key x × (xs ≡ (bucket_start x.bucket, hide h (token_of t x.bucket) x.slot) ∷ [])
Written t h begin xs = xs ≡ (4, h.state.k + 1 + 256 * 1) ∷ []
Written t h shrink xs = xs ≡ (4, h.state.k - 1 + 256 * 2) ∷ []
Written t h back xs =
    ((h.state.phase ≡ 2) × (xs ≡ (4, h.state.k + 1 + 256 * 1) ∷ []))
    ⊎ ((h.state.phase ≡ 1) × (xs ≡ (4, h.state.k - 1 + 256 * 2) ∷ []))
Written t h (step_from b) xs = (x : Slot) × FirstWithPlace t (InterimFrom t b) x × StepWritten t h x xs
Written t h end xs = xs ≡ (4, h.state.k + 256 * 0) ∷ []
Written t h recover xs = RecoveryWritten t h (finding t) xs

abbrev pub StoresAsWritten : Type 0
StoresAsWritten = (t : Table) (n : ℕ) (q : Call) (xs : List Store) → outcome t n q ≡ listed xs → Written t (header_of t) q xs

-- "From a sound table an accepted change lists at most ten stores": the numbers of document 01's table
abbrev pub Number : Call → ℕ → Type 0
Number (insert key r) n = (n ≡ 4) ⊎ (n ≡ 9)
Number (update key r) n = (n ≡ 4) ⊎ (n ≡ 7)
Number (delete key) n = n ≡ 1
Number begin n = n ≡ 1
Number shrink n = n ≡ 1
Number back n = n ≡ 1
Number (step_from b) n = (n ≡ 5) ⊎ (n ≡ 10)
Number end n = n ≡ 1
Number recover n = (n ≡ 0) ⊎ ((n ≡ 1) ⊎ (n ≡ 3))
Number (query key) n = n ≡ 0

abbrev pub StoreNumbers : Type 0
StoreNumbers = (t : Table) (n : ℕ) (q : Call) (xs : List Store) → outcome t n q ≡ listed xs → Number q (length xs) × (length xs ≤ 10)

-- the list as the call left it, with any n up to the reported stores, is one that make accepts: it gives the table with the
-- first n stores
abbrev pub MakeTakesTheList : Type 0
MakeTakesTheList =
    (t : Table) (l : List ℕ) (q : Call) (s : ℕ) → (change_result t l q).0 ≡ Ok s → (n : ℕ) → n ≤ s
    → (xs : List Store) × (outcome t (length l) q ≡ listed xs) × (length xs ≡ s)
    × (make_result t (change_result t l q).1 n ≡ (Ok tt, made t (take n xs)))

-- recovery of u, with any list of 20 words or more, "lists at most three stores", and these, made, bring back the map m
pub record Recovered (u : Table) (m : PlainMap) : Type 0 where
  pub stores : ℕ
  pub few : stores ≤ 3
  pub answer : (l : List ℕ) → 20 ≤ length l → (change_result u l recover).0 ≡ Ok stores
  pub sound : (l : List ℕ) → 20 ≤ length l → SoundTable (after u (whole recover l))
  pub map : (l : List ℕ) → 20 ≤ length l → HasMap (after u (whole recover l)) m

-- "A cut after any number of them is accepted by recovery .., which .. brings back exactly the map before or the map after".
-- The first n stores, for every n, are made by make from the list as the call left it (`after`); made whole they give the map
-- after, so that a call that lists nothing fails here
abbrev pub CutsAreSafe : Type 0
CutsAreSafe =
    (t : Table) (m : PlainMap) (l : List ℕ) → Given t m (length l) → (q : Call) → Accepted (change_result t l q).0
    → (SoundTable (after t (whole q l)) × HasMap (after t (whole q l)) (map_after q m))
    × ((n : ℕ) → Recovered (after t (cut q l n)) m ⊎ Recovered (after t (cut q l n)) (map_after q m))

-- "also when recovery is cut, however often": after any recoveries, each cut anywhere, one that is whole brings the same map
abbrev pub RecoveryMayBeCut : Type 0
RecoveryMayBeCut = (t u : Table) (m : PlainMap) (es : List Event) → Recovered t m → History Recovery t es u → Recovered u m

-- "Recovery accepts exactly three kinds of table", each with its stores
abbrev pub RecoveryAccepts : Type 0
RecoveryAccepts =
    (t : Table) (n : ℕ) → GoodHeader (length t) (header_of t) → 20 ≤ n
    → (SoundTable t × (outcome t n recover ≡ listed []))
    ⊎ (((x : Slot) × (y : Slot) × DoubledTable t x y × (outcome t n recover ≡ listed (clear_stores (header_of t) (token_of t y.bucket) y)))
    ⊎ (((x : Slot) × FlaggedTable t x × (outcome t n recover ≡ listed (redo_stores x (logged_of t))))
    ⊎ (OfNoKind t × (outcome t n recover ≡ refused NoKind))))

-- "One whole growth from N top buckets, each list made once, whole, on its own table, before the next call and no other store
-- made, spends at most 20N + 2 stores in its own calls, whatever but creation is called between." Request f): "40N + 2 for one whole shrink
-- from N top buckets, lists made as the growth bound has it and with no cut, creation or turning back; the 20N + 2 bound gains that last
-- premise too". What is called first, begin or shrink, and how often N is spent
abbrev pub SpendsAtMost : ℕ → Call → Type 0
SpendsAtMost times first =
    (t u : Table) (l : List ℕ) (es : List Event) → Accepted (change_result t l first).0 → OneResizing (after t (whole first l)) es
    → NoTurningBack (after t (whole first l)) es → History Whole t (whole first l ∷ es) u
    → spent t (whole first l ∷ es) ≤ times * 2 ^ (header_of t).state.k + 2

abbrev pub GrowthBound : Type 0
GrowthBound = SpendsAtMost 20 begin

abbrev pub ShrinkBound : Type 0
ShrinkBound = SpendsAtMost 40 shrink

-- "A query looks at no more than four buckets, six while growing, and reports the number truly looked at"; request f): "six buckets in either
-- phase". The number is the position, in the list of distinct probed buckets, of the bucket where it stopped, or that list's length
pub record StoppedAt (t : Table) (key : ℕ) (r : Record) (x : Spot) (n : ℕ) : Type 0 where
  pub slot : Slot
  pub stop : FirstHolder t key slot
  pub position : n ≡ length stop.before + 1
  pub value : record_in t slot ≡ r
  pub spot : x ≡ spot_of slot

abbrev pub CountBy : Table → ℕ → Query → Type 0
CountBy t key (Ok x) = StoppedAt t key x.what x.spot x.looked
CountBy t key (Err x) = (x.refusal ≡ KeyAbsent) × (x.looked ≡ length (places_of (header_of t) key)) × NoneHolds t key (places_of (header_of t) key)

abbrev pub QueryCounts : Type 0
QueryCounts = (t : Table) (key : ℕ) → GoodHeader (length t) (header_of t) → flag_of t ≡ 0 → CountBy t key (query_result t key)

-- the count that a query reports, whatever it answers
abbrev pub count_of : Query → ℕ
count_of (Ok x) = x.looked
count_of (Err x) = x.looked

abbrev pub ProbesAreFew : Type 0
ProbesAreFew =
    (t : Table) (key : ℕ) → (count_of (query_result t key) ≤ length (places_of (header_of t) key))
    × (AtRest t → length (places_of (header_of t) key) ≤ 4) × (length (places_of (header_of t) key) ≤ 6)

abbrev pub ProbesAreDistinct : Type 0
ProbesAreDistinct =
    (t : Table) (key : ℕ) → GoodHeader (length t) (header_of t) → (before between behind : List Place) (p q : Place)
    → places_of (header_of t) key ≡ before ++ (p ∷ (between ++ (q ∷ behind))) → p.bucket ≡ q.bucket → ⊥
