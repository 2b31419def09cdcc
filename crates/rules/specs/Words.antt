-- Document 01, "Words": sizes, the header, the levels and their buckets, slots and tokens.
--
-- A table is a list of words; a word past its end reads as 0. Nothing here tests anything but what it says it tests:
-- which tables a call accepts is said in `Calls`.
-- Token words are read and written only by `is_taken`, `tag_in`, `show` and `hide`, and `meant` says which should stand where.
-- Assumes nothing.
use Rattle.std.specs.Prelude.{ℕ, ◌+◌, ◌-◌, ◌*◌, ◌/◌, ◌%◌, ◌^◌, ◌≤◌, ◌<◌, ◌≡◌, Bool, not, cond, ◌⊎◌, length, get_or, eqb, leb, ltb}
use mathlib.Core.List.{List, [], ◌∷◌, map, flat_map, Memᴰ as In}
use Rattle.std.proofs.Math.Option
use Rattle.rules.specs.Choice.{all, any, given, select, first_of, from}
use Rattle.rules.specs.Forms.{form_good, GoodForm, tagged, tag_of}
use Rattle.rules.specs.declared.State.{State}
use Rattle.rules.specs.declared.Header.{Header}
use Rattle.rules.specs.declared.Level.{Level}
use Rattle.rules.specs.declared.Place.{Place}
use Rattle.rules.specs.declared.Slot.{Slot}
use Rattle.rules.specs.declared.Record.{Record}
use Rattle.rules.specs.declared.Spot.{Spot}

abbrev pub Table : Type 0
Table = List ℕ

abbrev pub word : Table → ℕ → ℕ
word t i = get_or t i 0

-- "The table has exactly 9 + 13·(2^(c+1) − 1) words"
unfoldable pub words_for : ℕ → ℕ
words_for c = 9 + 13 * (2 ^ (c + 1) - 1)

-- "state: k + 256·phase"
unfoldable pub state_of : ℕ → State
state_of w = record { k = w % 256; phase = w / 256 }

unfoldable pub state_word : State → ℕ
state_word s = s.k + 256 * s.phase

-- "phase 0 at rest, 1 growing"; document 02, request f): 2 shrinking
unfoldable pub at_rest : State → Bool
at_rest s = eqb s.phase 0

unfoldable pub shrinking : State → Bool
shrinking s = eqb s.phase 2

-- words 4 to 8: "state", "update flag", "update target, function, place"
abbrev pub word_of_state : ℕ
word_of_state = 4

abbrev pub word_of_flag : ℕ
word_of_flag = 5

abbrev pub word_of_target : ℕ
word_of_target = 6

abbrev pub word_of_function : ℕ
word_of_function = 7

abbrev pub word_of_place : ℕ
word_of_place = 8

-- words 0 to 4: form; c; "multipliers A1, A2"; state
unfoldable pub header_of : Table → Header
header_of t = record { form = word t 0; c = word t 1; mul1 = word t 2; mul2 = word t 3; state = state_of (word t word_of_state) }

unfoldable pub flag_of : Table → ℕ
flag_of t = word t word_of_flag

unfoldable pub target_of : Table → ℕ
target_of t = word t word_of_target

unfoldable pub logged_of : Table → Record
logged_of t = record { function = word t word_of_function; place = word t word_of_place }

-- "At rest 1 ≤ k ≤ c, while growing 2 ≤ k ≤ c. Other states are bad." Request f): "States with phase 2 need 1 ≤ k < c."
unfoldable pub state_good : ℕ → State → Bool
state_good c s =
    any (all (eqb s.phase 0 ∷ leb 1 s.k ∷ leb s.k c ∷ [])
    ∷ all (eqb s.phase 1 ∷ leb 2 s.k ∷ leb s.k c ∷ [])
    ∷ all (eqb s.phase 2 ∷ leb 1 s.k ∷ ltb s.k c ∷ []) ∷ [])

-- the same as a fact
abbrev pub GoodState : ℕ → State → Type 0
GoodState c s =
    ((s.phase ≡ 0) × (1 ≤ s.k) × (s.k ≤ c)) ⊎ (((s.phase ≡ 1) × (2 ≤ s.k) × (s.k ≤ c))
    ⊎ ((s.phase ≡ 2) × (1 ≤ s.k) × (s.k < c)))

-- "multipliers A1, A2, both odd"
unfoldable pub odd : ℕ → Bool
odd n = eqb (n % 2) 1

-- "c is the capacity exponent, 1 to 20"
unfoldable pub capacity_tests : ℕ → List Bool
capacity_tests c = leb 1 c ∷ leb c 20 ∷ []

-- a good header, over the table's length: what refusal 1 asks, "length, form, c, multipliers or state"
unfoldable pub header_tests : ℕ → Header → List Bool
header_tests size h =
    all (capacity_tests h.c) ∷ eqb size (words_for h.c) ∷ form_good h.form
    ∷ odd h.mul1 ∷ odd h.mul2 ∷ state_good h.c h.state ∷ []

pub record GoodHeader (size : ℕ) (h : Header) : Type 0 where
  pub capacity : (1 ≤ h.c) × (h.c ≤ 20)
  pub long : size ≡ words_for h.c
  pub form : GoodForm h.form
  pub odd1 : h.mul1 % 2 ≡ 1
  pub odd2 : h.mul2 % 2 ≡ 1
  pub state : GoodState h.c h.state

-- the names of the levels
abbrev pub top : ℕ
top = 0

abbrev pub bottom : ℕ
bottom = 1

abbrev pub interim : ℕ
interim = 2

-- "A level of M buckets (M a power of two)": a level is its name and the exponent of M
abbrev pub size_of : Level → ℕ
size_of l = 2 ^ l.exponent

-- "The top has 2^k buckets, the bottom half that; while growing, an interim level has a quarter."
unfoldable pub top_of : State → Level
top_of s = record { name = top; exponent = s.k }

unfoldable pub bottom_of : State → Level
bottom_of s = record { name = bottom; exponent = s.k - 1 }

-- request f): "The old top becomes the interim level, the old bottom the top", so while shrinking it has twice the top's
unfoldable pub interim_of : State → Level
interim_of s = record { name = interim; exponent = cond (shrinking s) (s.k + 1) (s.k - 2) }

-- the levels in use, in the order "top, bottom, interim"; request f): "levels in use are now three in either phase"
unfoldable pub levels_in_use : State → List Level
levels_in_use s = top_of s ∷ bottom_of s ∷ cond (at_rest s) [] (interim_of s ∷ [])

-- "A level of M buckets (M a power of two) is always buckets M − 1 to 2M − 2."
unfoldable pub buckets_of : ℕ → List ℕ
buckets_of m = from (m - 1) m

-- the same as a fact
abbrev pub InLevel : Level → ℕ → Type 0
InLevel l j = (size_of l - 1 ≤ j) × (j ≤ 2 * size_of l - 2)

-- all the table's buckets
unfoldable pub all_buckets : Header → List ℕ
all_buckets h = from 0 (2 ^ (h.c + 1) - 1)

-- the exponents of the table's levels, 0 to c, that no level in use has; and the buckets of these levels
unfoldable pub exponent_in_use : State → ℕ → Bool
exponent_in_use s e = any (map (λ (l : Level). eqb l.exponent e) (levels_in_use s))

unfoldable pub unused_buckets : Header → List ℕ
unused_buckets h = flat_map (λ (e : ℕ). buckets_of (2 ^ e)) (select (λ (e : ℕ). not (exponent_in_use h.state e)) (from 0 (h.c + 1)))

-- "a bucket as four such records": the slots of a bucket, 0 to 3
unfoldable pub slot_at : Place → ℕ → Slot
slot_at p s = record { level = p.level; bucket = p.bucket; slot = s }

abbrev pub slots : List ℕ
slots = from 0 4

unfoldable pub slots_in : Place → List Slot
slots_in p = map (slot_at p) slots

unfoldable pub place_of : Slot → Place
place_of x = record { level = x.level; bucket = x.bucket }

-- the slots of a level, "bucket and slot ascending"
unfoldable pub place_at : Level → ℕ → Place
place_at l j = record { level = l.name; bucket = j }

unfoldable pub slots_of : Level → List Slot
slots_of l = flat_map slots_in (map (place_at l) (buckets_of (size_of l)))

-- the slots of the levels in use, "by top, bottom, interim, then bucket and slot ascending"
unfoldable pub slots_in_use : State → List Slot
slots_in_use s = flat_map slots_of (levels_in_use s)

-- a slot of a level in use, as a fact
pub record InUse (s : State) (x : Slot) : Type 0 where
  pub level : Level
  pub used : In level (levels_in_use s)
  pub name : x.level ≡ level.name
  pub bucket : InLevel level x.bucket
  pub slot : x.slot < 4

-- "Bucket j starts at word 9 + 13j: one token word, then four slots of three words: key, function, place.
-- Slot s starts at offset 1 + 3s."
unfoldable pub token_word : ℕ → ℕ
token_word j = 9 + 13 * j

abbrev pub slot_word : ℕ → ℕ → ℕ
slot_word j s = token_word j + (1 + 3 * s)

unfoldable pub key_word : Slot → ℕ
key_word x = slot_word x.bucket x.slot

unfoldable pub function_word : Slot → ℕ
function_word x = key_word x + 1

unfoldable pub place_word : Slot → ℕ
place_word x = key_word x + 2

-- document 02, request e): "the word index of the key found and whether it was top, bottom or interim"
unfoldable pub spot_of : Slot → Spot
spot_of x = record { word = key_word x; level = x.level }

unfoldable pub key_in : Table → Slot → ℕ
key_in t x = word t (key_word x)

unfoldable pub record_in : Table → Slot → Record
record_in t x = record { function = word t (function_word x); place = word t (place_word x) }

unfoldable pub token_of : Table → ℕ → ℕ
token_of t j = word t (token_word j)

-- the keys of bucket j's four slots
unfoldable pub keys_of : Table → ℕ → ℕ → ℕ
keys_of t j s = word t (slot_word j s)

-- ---- token words: what one holds is known only here

-- the token number: bits 0 to 3 of a token word, by which slots are taken in either form
unfoldable pub token_number : ℕ → ℕ
token_number w = w % 16

-- "Token bit s is 1 when slot s is taken."
unfoldable pub is_taken : Header → ℕ → ℕ → Bool
is_taken h w s = eqb (token_number w / 2 ^ s % 2) 1

-- "Calls read token words modulo 16"; document 02, request g), of form 2: "calls read and write the whole word where 01 said modulo 16"
unfoldable pub word_read : Header → ℕ → ℕ
word_read h w = cond (tagged h) w (token_number w)

-- "slot s at bits 8 + 8s to 15 + 8s"; in form 1 no bit is read there
unfoldable pub tag_in : Header → ℕ → ℕ → ℕ
tag_in h w s = word_read h w / 2 ^ (8 + 8 * s) % 256

-- what slot s adds to a token word: its bit, and its tag
abbrev pub mark : ℕ → ℕ → ℕ → ℕ
mark s bit tag = bit * 2 ^ s + tag * 2 ^ (8 + 8 * s)

-- the token word with slot s free, and with slot s taken by a key: "Token and tag change in one store", "keeping bits they do not change".
-- Of form 1 "a token store is always below 16"
unfoldable pub hide : Header → ℕ → ℕ → ℕ
hide h w s = word_read h w - mark s (token_number w / 2 ^ s % 2) (tag_in h w s)

unfoldable pub show : Header → ℕ → ℕ → ℕ → ℕ
show h w s key = hide h w s + mark s 1 (tag_of h key)

-- how many slots of a token word are taken; its "lowest free slot" and its lowest taken one, 4 where there is none
unfoldable pub taken_of : Header → ℕ → ℕ
taken_of h w = length (select (is_taken h w) slots)

abbrev pub lowest : (ℕ → Bool) → ℕ
lowest p = Option.get_or (first_of (λ (s : ℕ). given (p s) s) slots) 4

unfoldable pub lowest_free : Header → ℕ → ℕ
lowest_free h w = lowest (λ (s : ℕ). not (is_taken h w s))

unfoldable pub lowest_taken : Header → ℕ → ℕ
lowest_taken h w = lowest (is_taken h w)

-- the word that should stand where w does, by its taken slots and the keys of its four slots. Form 1: "every token word at most 15"; form 2: "an
-- eight-bit tag for each taken slot", "Free slots have tag 0; all other upper bits are 0"
unfoldable pub mark_meant : Header → ℕ → (ℕ → ℕ) → ℕ → ℕ
mark_meant h w keys s = cond (is_taken h w s) (mark s 1 (tag_of h (keys s))) 0

unfoldable pub meant : Header → ℕ → (ℕ → ℕ) → ℕ
meant h w keys = mark_meant h w keys 0 + (mark_meant h w keys 1 + (mark_meant h w keys 2 + mark_meant h w keys 3))

-- ---- the token words of a table

unfoldable pub taken : Table → Header → Slot → Bool
taken t h x = is_taken h (token_of t x.bucket) x.slot

-- what bucket j's token word should be
unfoldable pub meant_of : Table → Header → ℕ → ℕ
meant_of t h j = meant h (token_of t j) (keys_of t j)
