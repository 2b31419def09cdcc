-- Document 02, request e), a second time: its sentences in facts about the words of the table; only `LookupStood` names the lookup. They are
-- types, as those of `Demands` are: a law of proofs/ that proves one bears its name, beginning with a small letter.
-- Assumes nothing.
use Rattle.std.specs.Prelude.{ℕ, ◌+◌, ◌-◌, ◌*◌, ◌/◌, ◌%◌, ◌^◌, ◌≤◌, ◌<◌, ◌≡◌, ◌⊎◌, length, get_or, take, drop}
use mathlib.Core.List.{List, [], ◌∷◌, ◌++◌, Memᴰ as In}
use Rattle.rules.specs.Forms.{tag_of}
use Rattle.rules.specs.Words.{Table, word, header_of, GoodHeader, flag_of, place_of, token_of, tag_in, hide}
use Rattle.rules.specs.Places.{places_of, lookup}
use Rattle.rules.specs.Placing.{free_slot}
use Rattle.rules.specs.Stores.{Store}
use Rattle.rules.specs.Soundness.{TakenSlot, SoundTable}
use Rattle.rules.specs.Answers.{Meaning, query_means, lookup_means, chain_means}
use Rattle.rules.specs.Calls.{refused, listed, insert, update, delete, outcome}
use Rattle.rules.specs.Results.{query_result}
use Rattle.rules.specs.Chains.{chain_result}
use Rattle.rules.specs.Demands.{Resizing, interim_size, bucket_start, slot_start, UpdateWritten}
use Rattle.rules.specs.ChainSentences.{key_at}
use Rattle.rules.specs.declared.Place.{Place}
use Rattle.rules.specs.declared.Slot.{Slot}
use Rattle.rules.specs.declared.Record.{Record}
use Rattle.rules.specs.declared.Refusal.TheVariants.{KeyPresent}

-- ==== "The inner lookup, and query with it, must also return the word index of the key found and whether it was top, bottom or interim"

-- a taken slot with the key: slot s of bucket j. "Bucket j starts at word 9 + 13j: one token word, then four slots of three words: key,
-- function, place. Slot s starts at offset 1 + 3s. Token bit s is 1 when slot s is taken." "Calls read token words modulo 16".
-- Request g): "reads only the slots whose tag fits"
abbrev pub KeyStands : Table → ℕ → ℕ → ℕ → Type 0
KeyStands t key j s =
    (word t (9 + 13 * j) % 16 / 2 ^ s % 2 ≡ 1)
    × ((tag_in (header_of t) (word t (9 + 13 * j)) s ≡ tag_of (header_of t) key) × (word t (9 + 13 * j + (1 + 3 * s)) ≡ key))

-- a level in use of that name, and bucket j in it. "The top has 2^k buckets, the bottom half that; while growing, an interim level has a
-- quarter"; while shrinking, it has twice the top's (`interim_size`). "A level of M buckets .. is always buckets M − 1 to 2M − 2."
abbrev pub AmongBuckets : ℕ → ℕ → Type 0
AmongBuckets m j = (m - 1 ≤ j) × (j ≤ 2 * m - 2)

abbrev pub LevelNamed : Table → ℕ → ℕ → Type 0
LevelNamed t name j =
    let k = (header_of t).state.k in
    ((name ≡ 0) × AmongBuckets (2 ^ k) j)
    ⊎ (((name ≡ 1) × AmongBuckets (2 ^ (k - 1)) j) ⊎ ((name ≡ 2) × Resizing t × AmongBuckets (interim_size t) j))

-- word w and level name are told of the key, with the record f, p and the count n
pub record StoodAt (t : Table) (key f p n w name : ℕ) : Type 0 where
  pub bucket : ℕ
  pub slot : ℕ
  -- the key word of a taken slot with that key
  pub four : slot < 4
  pub index : w ≡ 9 + 13 * bucket + (1 + 3 * slot)
  pub inside : w + 2 < length t
  pub stands : KeyStands t key bucket slot
  -- in a level in use of that name
  pub level : LevelNamed t name bucket
  -- in the last bucket looked at
  pub before : List Place
  pub last : Place
  pub behind : List Place
  pub order : places_of (header_of t) key ≡ before ++ (last ∷ behind)
  pub count : n ≡ length before + 1
  pub here : last.bucket ≡ bucket
  -- the first such slot in probe order
  pub earlier : (q : Place) → In q before → (s : ℕ) → s < 4 → KeyStands t key q.bucket s → ⊥
  pub lower : (s : ℕ) → s < slot → KeyStands t key bucket s → ⊥
  -- the record told is the one that stands there
  pub function : word t (w + 1) ≡ f
  pub place : word t (w + 2) ≡ p

-- what a query tells
abbrev pub told : Table → ℕ → Meaning
told t key = query_means (query_result t key)

abbrev pub FoundStood : Type 0
FoundStood =
    (t : Table) (key : ℕ) → (told t key).number ≡ 0
    → (f : ℕ) × (p : ℕ) × (n : ℕ) × (w : ℕ) × (name : ℕ) × ((told t key).values ≡ f ∷ p ∷ n ∷ w ∷ name ∷ [])
    × StoodAt t key f p n w name

-- "with any refusal, index 0 and top"
abbrev pub RefusedStoodNowhere : Type 0
RefusedStoodNowhere =
    (t : Table) (key : ℕ) → ((told t key).number ≡ 0 → ⊥) → (n : ℕ) × ((told t key).values ≡ 0 ∷ 0 ∷ n ∷ 0 ∷ 0 ∷ [])

-- the inner lookup answers the number, and after function and place the values, that query answers with it; then, where it finds the key, the
-- bucket and the slot of the word told
abbrev pub SlotBehind : ℕ → List ℕ → Type 0
SlotBehind w values = (j : ℕ) × (s : ℕ) × (values ≡ j ∷ s ∷ []) × (s < 4) × (w ≡ 9 + 13 * j + (1 + 3 * s))

abbrev pub LookupStood : Type 0
LookupStood =
    (t : Table) (key : ℕ) → GoodHeader (length t) (header_of t) → flag_of t ≡ 0
    → let m = lookup_means (lookup t (header_of t) key) in
    ((told t key).number ≡ m.number) × (drop 2 (told t key).values ≡ take 3 m.values)
    × (m.number ≡ 0 → SlotBehind (get_or m.values 1 0) (drop 3 m.values))

-- the word and the level that a query tells
abbrev pub word_told : Table → ℕ → ℕ
word_told t key = get_or (told t key).values 3 0

abbrev pub level_told : Table → ℕ → ℕ
level_told t key = get_or (told t key).values 4 0

-- on a sound table it is the only taken slot with the key
abbrev pub TheOneStood : Type 0
TheOneStood =
    (t : Table) → SoundTable t → (x : Slot) (key : ℕ) → TakenSlot t x → word t (slot_start x) ≡ key
    → ((told t key).number ≡ 0) × (word_told t key ≡ slot_start x) × (level_told t key ≡ x.level)

-- ==== "Delete, update, the chain of a) and the ledger of d) rest on that lookup"

-- delete and update list their stores for the slot of the word told, and insert refuses its key
pub record ChangesThere (t : Table) (key n : ℕ) : Type 0 where
  pub slot : Slot
  pub four : slot.slot < 4
  pub index : word_told t key ≡ slot_start slot
  pub level : level_told t key ≡ slot.level
  pub deletes : outcome t n (delete key) ≡ listed ((bucket_start slot.bucket, hide (header_of t) (token_of t slot.bucket) slot.slot) ∷ [])
  pub updates : (r : Record) → (xs : List Store) × (outcome t n (update key r) ≡ listed xs)
      × UpdateWritten t (header_of t) slot key r (free_slot t (header_of t) (place_of slot)) xs
  pub inserts : (r : Record) → outcome t n (insert key r) ≡ refused KeyPresent

abbrev pub ChangesGoThere : Type 0
ChangesGoThere = (t : Table) (key n : ℕ) → 20 ≤ n → (told t key).number ≡ 0 → ChangesThere t key n

-- a chain's record of depth e stands after the word that a query of that depth's key tells
abbrev pub ChainStood : Type 0
ChainStood =
    (t : Table) (address d : ℕ) (l : List ℕ) → (chain_means (chain_result t address d l).0).number ≡ 0 → (e : ℕ) → e ≤ d
    → let w = word_told t (key_at address e) in let m = (chain_result t address d l).1 in
    ((told t (key_at address e)).number ≡ 0) × (word m (2 * (d - e)) ≡ word t (w + 1)) × (word m (2 * (d - e) + 1) ≡ word t (w + 2))
