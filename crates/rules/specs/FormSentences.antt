-- Document 02, request g), a second time: its sentences in facts about the words of the table and their bits. They are types, as those of `Demands`
-- are: a law of proofs/ that proves one bears its name, beginning with a small letter.
-- `Demands` says: "any but 1 and 2 gives 13, and in a table 1", by `CreateAnswers` and `HeaderWords`; that creation writes the form it is told, by
-- `CreatedIsEmpty`; that no call changes it, by `StoresAsWritten`; "all store numbers stay", by `StoreNumbers`, which speaks of either form, as all
-- statements about cuts do. "Scripts make form 1" is `ScriptsMakeForm1` of the crate `replaying`.
-- Assumes nothing.
use Rattle.std.specs.Prelude.{ℕ, ◌+◌, ◌-◌, ◌*◌, ◌/◌, ◌%◌, ◌^◌, ◌≤◌, ◌<◌, ◌≡◌, true, ◌&&◌, ◌⊎◌, ◌↔◌, eqb}
use mathlib.Core.List.{List, Memᴰ as In}
use Rattle.std.proofs.Math.Option.{Option}
use Rattle.rules.specs.Choice.{given, first_of}
use Rattle.rules.specs.Forms.{mixed, tag_of}
use Rattle.rules.specs.Words.{Table, word, header_of, size_of, slots_in, key_in, token_of, taken, show, hide, meant_of}
use Rattle.rules.specs.Places.{hashes_of, first_place, second_place, places_of, holds, seek, lookup}
use Rattle.rules.specs.Stores.{Store}
use Rattle.rules.specs.Soundness.{SoundTable}
use Rattle.rules.specs.Calls.{refused, listed, Call, query, insert, update, delete, recover, outcome}
use Rattle.rules.specs.Results.{query_at, query_result}
use Rattle.rules.specs.NoPlace.{NoPlaceFor}
use Rattle.rules.specs.Demands.{HeaderWords, MayChange}
use Rattle.rules.specs.declared.Header.{Header}
use Rattle.rules.specs.declared.Level.{Level}
use Rattle.rules.specs.declared.Place.{Place}
use Rattle.rules.specs.declared.Slot.{Slot}
use Rattle.rules.specs.declared.Record.{Record}
use Rattle.rules.specs.declared.Refusal.TheVariants.{KeyAbsent, NoPlace, NoKind}

-- bit i of a number, and its eight bits from bit 8 + 8s on
abbrev pub bit : ℕ → ℕ → ℕ
bit n i = n / 2 ^ i % 2

abbrev pub eight : ℕ → ℕ → ℕ
eight n s = n / 2 ^ (8 + 8 * s) % 256

-- ==== "In form 2, before hashing, a key is combined by exclusive or with itself divided by 2^32. Form 1 keeps the old rule"

-- bit i of what is hashed is the sum of bits i and i + 32 of the key, modulo 2
abbrev pub MixedBits : Type 0
MixedBits =
    (h : Header) (key : ℕ) → (h.form ≡ 1 → mixed h key ≡ key)
    × (h.form ≡ 2 → (i : ℕ) → bit (mixed h key) i ≡ (bit key i + bit key (32 + i)) % 2)

-- and both places of a key come from it
abbrev pub PlacesByHash : Type 0
PlacesByHash =
    (h : Header) (key : ℕ) (l : Level)
    → ((first_place (hashes_of h key) l).bucket ≡ size_of l - 1 + mixed h key * h.mul1 % 2 ^ 64 / 2 ^ 32 % size_of l)
    × ((second_place (hashes_of h key) l).bucket ≡ size_of l - 1 + mixed h key * h.mul2 % 2 ^ 64 / 2 ^ 32 % size_of l)

-- ==== "the hash 1 product modulo 2^64, divided by 2^24, modulo 256"

-- so the tag is the eight bits below hash 1: of the product, both together are what stands from bit 24 on
abbrev pub TagBelowHash : Type 0
TagBelowHash =
    (h : Header) (key : ℕ) → h.form ≡ 2
    → (tag_of h key < 256) × ((hashes_of h key).tag ≡ tag_of h key)
    × (mixed h key * h.mul1 % 2 ^ 64 / 2 ^ 24 ≡ 256 * (hashes_of h key).first + tag_of h key)

-- ==== "an eight-bit tag for each taken slot in the token word, slot s at bits 8 + 8s to 15 + 8s"; "Free slots have tag 0; all other upper bits are 0;
-- soundness and recovery test this"

-- bucket j's token word, of form 2, by its bits
pub record RightWord (t : Table) (j : ℕ) : Type 0 where
  pub shown : (s : ℕ) → s < 4 → bit (word t (9 + 13 * j)) s ≡ 1 → eight (word t (9 + 13 * j)) s ≡ tag_of (header_of t) (word t (9 + 13 * j + (1 + 3 * s)))
  pub free : (s : ℕ) → s < 4 → bit (word t (9 + 13 * j)) s ≡ 0 → eight (word t (9 + 13 * j)) s ≡ 0
  pub between : word t (9 + 13 * j) / 16 % 16 ≡ 0
  pub above : word t (9 + 13 * j) / 2 ^ 40 ≡ 0

-- what soundness asks of a token word is this, and in form 1 "at most 15"
abbrev pub WordsExactly : Type 0
WordsExactly =
    (t : Table) (j : ℕ) → (word t 0 ≡ 1 → (token_of t j ≡ meant_of t (header_of t) j) ↔ (word t (9 + 13 * j) < 16))
    × (word t 0 ≡ 2 → (token_of t j ≡ meant_of t (header_of t) j) ↔ RightWord t j)

-- a wrong one is none of recovery's three kinds, whatever stands twice
abbrev pub WrongWordsAreTwelve : Type 0
WrongWordsAreTwelve =
    (t : Table) (n j : ℕ) → HeaderWords t → 20 ≤ n → j < 2 ^ (word t 1 + 1) - 1 → (token_of t j ≡ meant_of t (header_of t) j → ⊥)
    → outcome t n recover ≡ refused NoKind

-- ==== "calls read and write the whole word where 01 said modulo 16, keeping bits they do not change"; "Token and tag change in one store"

-- v is w with the bit and the tag of slot s changed to these
pub record OneSlot (w v s own tag : ℕ) : Type 0 where
  pub here : (bit v s ≡ own) × (eight v s ≡ tag)
  pub others : (z : ℕ) → z < 4 → (z ≡ s → ⊥) → (bit v z ≡ bit w z) × (eight v z ≡ eight w z)
  pub between : v / 16 % 16 ≡ w / 16 % 16
  pub above : v / 2 ^ 40 ≡ w / 2 ^ 40

-- a slot shown and a slot hidden, over the word or, in form 1, over the word modulo 16
abbrev pub StoresChangeOneSlot : Type 0
StoresChangeOneSlot =
    (h : Header) (w s key : ℕ) → s < 4
    → (h.form ≡ 1 → OneSlot (w % 16) (show h w s key) s 1 0 × OneSlot (w % 16) (hide h w s) s 0 0)
    × (h.form ≡ 2 → OneSlot w (show h w s key) s 1 (tag_of h key) × OneSlot w (hide h w s) s 0 0)

-- so a store of a call to a token word leaves bits 4 to 7 and those from 40 on as they are. Which slots it shows and hides is `StoresAsWritten`
abbrev pub TokenStoresKeep : Type 0
TokenStoresKeep =
    (t : Table) (n : ℕ) (q : Call) (xs : List Store) → outcome t n q ≡ listed xs → word t 0 ≡ 2
    → (x : Store) → In x xs → (j : ℕ) → x.0 ≡ 9 + 13 * j
    → (x.1 / 16 % 16 ≡ word t (9 + 13 * j) / 16 % 16) × (x.1 / 2 ^ 40 ≡ word t (9 + 13 * j) / 2 ^ 40)

-- ==== "A form 2 query reads only the slots whose tag fits."

-- a slot counts as one with the key by its bit, its key word and, in form 2, its tag
abbrev pub HoldsByTag : Type 0
HoldsByTag =
    (t : Table) (key : ℕ) (x : Slot) → x.slot < 4
    → (word t 0 ≡ 1 → (holds t (header_of t) key x ≡ true)
    ↔ ((bit (word t (9 + 13 * x.bucket)) x.slot ≡ 1) × (word t (9 + 13 * x.bucket + (1 + 3 * x.slot)) ≡ key)))
    × (word t 0 ≡ 2 → (holds t (header_of t) key x ≡ true)
    ↔ ((bit (word t (9 + 13 * x.bucket)) x.slot ≡ 1)
    × ((eight (word t (9 + 13 * x.bucket)) x.slot ≡ tag_of (header_of t) key) × (word t (9 + 13 * x.bucket + (1 + 3 * x.slot)) ≡ key))))

-- so in a damaged table a wrong tag hides a key: where no slot of its places is taken, holds the key and has a fitting tag, the calls that look it up
-- say that it is absent, and insert does not see it. The chain asks as query does (`ChainRefusals`)
abbrev pub Hidden : Table → ℕ → Type 0
Hidden t key =
    (p : Place) → In p (places_of (header_of t) key) → (s : ℕ) → s < 4 → eight (word t (9 + 13 * p.bucket)) s ≡ tag_of (header_of t) key
    → (bit (word t (9 + 13 * p.bucket)) s ≡ 1) × (word t (9 + 13 * p.bucket + (1 + 3 * s)) ≡ key) → ⊥

abbrev pub WrongTagHides : Type 0
WrongTagHides =
    (t : Table) (n key : ℕ) → MayChange t n → word t 0 ≡ 2 → Hidden t key
    → (outcome t n (query key) ≡ refused KeyAbsent) × (outcome t n (delete key) ≡ refused KeyAbsent)
    × ((r : Record) → (outcome t n (update key r) ≡ refused KeyAbsent)
    × (((xs : List Store) × (outcome t n (insert key r) ≡ listed xs))
    ⊎ (NoPlaceFor t (header_of t) key × (outcome t n (insert key r) ≡ refused NoPlace))))

-- ==== "On a sound table its answer equals that of reading every slot, buckets looked at included."

-- the search of document 01, which reads every slot
abbrev pub read_all : Table → ℕ → Place → Option Slot
read_all t key p = first_of (λ (x : Slot). given (taken t (header_of t) x && eqb (key_in t x) key) x) (slots_in p)

abbrev pub ReadsAsAll : Table → ℕ → Type 0
ReadsAsAll t key =
    (lookup t (header_of t) key ≡ seek (read_all t key) 0 (places_of (header_of t) key))

abbrev pub TagsMissNothing : Type 0
TagsMissNothing =
    (t : Table) → SoundTable t → (key : ℕ) → ReadsAsAll t key
    × (query_result t key ≡ query_at t (seek (read_all t key) 0 (places_of (header_of t) key)))

-- "Form 1 keeps the old rule": it reads every slot, on every table
abbrev pub NoTagsInForm1 : Type 0
NoTagsInForm1 = (t : Table) → word t 0 ≡ 1 → (key : ℕ) → ReadsAsAll t key
