-- Document 01, "Sound tables and recovery": which tables are sound, as a test that computes and as facts; the map of a
-- table; and what recovery finds, apart from the stores that it lists.
-- Assumes nothing.
use Rattle.std.specs.Prelude.{ℕ, ◌+◌, ◌-◌, ◌*◌, ◌^◌, ◌<◌, ◌≡◌, Bool, true, cond, ◌⊎◌, length, eqb}
use mathlib.Core.List.{List, [], ◌∷◌, ◌++◌, map, Memᴰ as In}
use Rattle.std.proofs.Math.Option.{Option, none, some}
use Rattle.rules.specs.Choice.{all, any, given, select, empty, first_of}
use Rattle.rules.specs.Words.{Table, word, header_of, header_tests, GoodHeader, flag_of, target_of, levels_in_use, InLevel, all_buckets, unused_buckets}
use Rattle.rules.specs.Words.{slots_in_use, InUse, place_of, key_word, key_in, record_in, token_of, taken, meant_of}
use Rattle.rules.specs.Places.{same_place, places_of}
use Rattle.rules.specs.declared.Level.{Level}
use Rattle.rules.specs.declared.Place.{Place}
use Rattle.rules.specs.declared.Slot.{Slot}
use Rattle.rules.specs.declared.Record.{Record}
use Rattle.rules.specs.declared.Finding.{Finding}
use Rattle.rules.specs.declared.Finding.TheVariants.{Sound, Doubled, Flagged, Neither}

-- ---- as a test

-- the taken slots in levels in use, "by top, bottom, interim, then bucket and slot ascending"
unfoldable pub taken_slots : Table → List Slot
taken_slots t = select (taken t (header_of t)) (slots_in_use (header_of t).state)

-- form 1: "every token word at most 15"; form 2, request g): "Free slots have tag 0; all other upper bits are 0; soundness and recovery test this".
-- Each is what it should be
unfoldable pub tokens_tidy : Table → Bool
tokens_tidy t = all (map (λ (j : ℕ). eqb (token_of t j) (meant_of t (header_of t) j)) (all_buckets (header_of t)))

-- "and 0 in levels not in use"
unfoldable pub unused_empty : Table → Bool
unused_empty t = all (map (λ (j : ℕ). eqb (token_of t j) 0) (unused_buckets (header_of t)))

-- "each taken slot in a place of its key"
unfoldable pub in_place : Table → Slot → Bool
in_place t x = any (map (same_place (place_of x)) (places_of (header_of t) (key_in t x)))

-- all that is asked of a table whose flag is f, but for "no key in two taken slots"
unfoldable pub orderly_tests : ℕ → Table → List Bool
orderly_tests f t =
    all (header_tests (length t) (header_of t)) ∷ eqb (flag_of t) f ∷ tokens_tidy t ∷ unused_empty t
    ∷ all (map (in_place t) (taken_slots t)) ∷ []

-- the pairs of slots of a list that hold the same key, each pair in the order of the list
unfoldable pub same_key : Table → Slot → Slot → Bool
same_key t x y = eqb (key_in t x) (key_in t y)

abbrev pub twins_of : Table → List Slot → List (Slot × Slot)
twins_of t [] = []
twins_of t (x ∷ xs) = map (λ (y : Slot). (x, y)) (select (same_key t x) xs) ++ twins_of t xs

unfoldable pub twins : Table → List (Slot × Slot)
twins t = twins_of t (taken_slots t)

-- "Sound: good header; flag 0; every token word at most 15, and 0 in levels not in use; each taken slot in a place of its
-- key; no key in two taken slots."; "at most 15" is of form 1
unfoldable pub sound_tests : Table → List Bool
sound_tests t = all (orderly_tests 0 t) ∷ empty (twins t) ∷ []

-- ---- as facts

-- a taken slot in a level in use
pub record TakenSlot (t : Table) (x : Slot) : Type 0 where
  pub used : InUse (header_of t).state x
  pub shown : taken t (header_of t) x ≡ true

-- "good header"; the flag is f; "every token word at most 15", in form 2 what request g) asks of it, "and 0 in levels not in use; each taken slot in
-- a place of its key"
pub record OrderlyTable (f : ℕ) (t : Table) : Type 0 where
  pub header : GoodHeader (length t) (header_of t)
  pub flag : flag_of t ≡ f
  pub tidied : (j : ℕ) → j < 2 ^ ((header_of t).c + 1) - 1 → token_of t j ≡ meant_of t (header_of t) j
  pub unused : (j : ℕ) → j < 2 ^ ((header_of t).c + 1) - 1 → ((l : Level) → In l (levels_in_use (header_of t).state) → InLevel l j
      → ⊥) → token_of t j ≡ 0
  pub placed : (x : Slot) → TakenSlot t x → (p : Place) × In p (places_of (header_of t) (key_in t x)) × (p.bucket ≡ x.bucket)

-- with flag 0, and "no key in two taken slots"
pub record SoundTable (t : Table) : Type 0 where
  pub orderly : OrderlyTable 0 t
  pub alone : (x y : Slot) → TakenSlot t x → TakenSlot t y → key_in t x ≡ key_in t y → x ≡ y

-- ---- the map

-- from keys to records
abbrev pub PlainMap : Type 0
PlainMap = ℕ → Option Record

-- "Its map is its taken slots."
pub record HasMap (t : Table) (m : PlainMap) : Type 0 where
  pub stands : (x : Slot) → TakenSlot t x → m (key_in t x) ≡ some (record_in t x)
  pub only : (key : ℕ) (r : Record) → m key ≡ some r → (x : Slot) × TakenSlot t x × (key_in t x ≡ key) × (record_in t x ≡ r)

-- computed: the record of the first taken slot with the key. On a sound table there is no other
unfoldable pub map_of : Table → PlainMap
map_of t key = first_of (λ (x : Slot). given (eqb (key_in t x) key) (record_in t x)) (taken_slots t)

-- ---- "Recovery accepts exactly three kinds of table"

-- "by top, bottom, interim, then bucket and slot ascending"
abbrev pub Before : Slot → Slot → Type 0
Before x y =
    (x.level < y.level)
    ⊎ ((x.level ≡ y.level) × ((x.bucket < y.bucket) ⊎ ((x.bucket ≡ y.bucket) × (x.slot < y.slot))))

-- "sound but for one key that stands exactly twice with equal records"
pub record DoubledTable (t : Table) (x y : Slot) : Type 0 where
  pub orderly : OrderlyTable 0 t
  pub first : TakenSlot t x
  pub later : TakenSlot t y
  pub order : Before x y
  pub key : key_in t x ≡ key_in t y
  pub equal : record_in t x ≡ record_in t y
  pub only : (a b : Slot) → TakenSlot t a → TakenSlot t b → key_in t a ≡ key_in t b
      → (a ≡ b) ⊎ (((a ≡ x) × (b ≡ y)) ⊎ ((a ≡ y) × (b ≡ x)))

-- "sound but for flag 1, with word 6 the key word of a taken slot in a level in use": "Bucket j starts at word 9 + 13j", "Slot s
-- starts at offset 1 + 3s."
pub record FlaggedTable (t : Table) (x : Slot) : Type 0 where
  pub orderly : OrderlyTable 1 t
  pub alone : (a b : Slot) → TakenSlot t a → TakenSlot t b → key_in t a ≡ key_in t b → a ≡ b
  pub named : TakenSlot t x
  pub target : word t 6 ≡ 9 + 13 * x.bucket + (1 + 3 * x.slot)

-- what recovery finds. With flag 0: no two slots with the same key, or one such pair, and its records are equal
unfoldable pub same_record : Record → Record → Bool
same_record r s = all (eqb r.function s.function ∷ eqb r.place s.place ∷ [])

abbrev pub when_still : Table → List (Slot × Slot) → Finding
when_still t [] = Sound
when_still t (p ∷ []) = cond (same_record (record_in t p.0) (record_in t p.1)) (Doubled p.0 p.1) Neither
when_still t (p ∷ (q ∷ rest)) = Neither

-- with flag 1: no two slots with the same key, and word 6 names a taken slot
unfoldable pub target : Table → Option Slot
target t = first_of (λ (x : Slot). given (eqb (target_of t) (key_word x)) x) (taken_slots t)

abbrev pub when_flagged : Option Slot → List (Slot × Slot) → Finding
when_flagged (some x) [] = Flagged x
when_flagged (some x) (p ∷ rest) = Neither
when_flagged none ps = Neither

unfoldable pub finding : Table → Finding
finding t =
    cond (all (orderly_tests 0 t)) (when_still t (twins t))
    (cond (all (orderly_tests 1 t)) (when_flagged (target t) (twins t)) Neither)
