-- Document 02, request h), a second time: its sentences in facts about words, calls and maps, without the rule's own fold. They are types, as those
-- of `Demands` are: a law of proofs/ that proves one bears its name, beginning with a small letter.
-- t is the source, s the second table at entry.
-- Assumes nothing.
use Rattle.std.specs.Prelude.{ℕ, ◌-◌, ◌≤◌, ◌≡◌, ◌↔◌, length}
use mathlib.Core.List.{List, [], ◌∷◌, ◌++◌, map, Memᴰ as In}
use Rattle.rules.specs.Words.{Table, word, header_of, key_in, record_in}
use Rattle.rules.specs.Soundness.{TakenSlot, SoundTable, PlainMap, HasMap, Before}
use Rattle.rules.specs.Answers.{number_of, conversion_means}
use Rattle.rules.specs.Calls.{Outcome, refused, listed, insert}
use Rattle.rules.specs.Results.{change_result, create_result}
use Rattle.rules.specs.Conversions.{convert_result}
use Rattle.rules.specs.NoPlace.{NoPlaceFor}
use Rattle.rules.specs.Histories.{Event, whole, cut, after_all, after, Accepted}
use Rattle.rules.specs.Demands.{CreatedWords, Resizing, HeaderWords, bad_header, FirstRefuses}
use Rattle.rules.specs.declared.Slot.{Slot}
use Rattle.rules.specs.declared.Header.{Header}
use Rattle.rules.specs.declared.Refusal.{Refusal}
use Rattle.rules.specs.declared.Refusal.TheVariants.{NoPlace, AlreadyResizing, NoKind, BadCreation}
use Rattle.rules.specs.Answers.{Conversion}
use Rattle.rules.specs.declared.Unconverted.TheVariants.{Stuck, Rejected}
use Rattle.std.specs.Prelude.{Ok, Err}

-- ==== "create the other form there with the same c, k and multipliers, and insert every item in probe-level order, bucket and slot ascending"

-- creation with the source's own words, and the other form: 3 minus the form. At rest word 4 is k
abbrev pub fresh_in : Table → Table → Table
fresh_in t s = (create_result s (3 - word t 0) (word t 1) (word t 4) (word t 2) (word t 3)).1

-- all items of the source, "top, bottom, .. then bucket and slot ascending"
pub record ItemsInOrder (t : Table) (xs : List Slot) : Type 0 where
  pub every : (x : Slot) → TakenSlot t x ↔ In x xs
  pub order : (before behind : List Slot) (x y : Slot) → xs ≡ before ++ (x ∷ behind) → In y behind → Before x y

-- the inserts of some items, each with the list l, its stores made whole
abbrev pub inserts : Table → List ℕ → List Slot → List Event
inserts t l xs = map (λ (x : Slot). whole (insert (key_in t x) (record_in t x)) l) xs

abbrev pub AllAccepted : Table → List Event → Type 0
AllAccepted u [] = Unit {0}
AllAccepted u (whole q l ∷ es) = Accepted (change_result u l q).0 × AllAccepted (after u (whole q l)) es
AllAccepted u (cut q l n ∷ es) = ⊥

-- every item is inserted in the created table, by accepted calls, which gives u: whatever list of 20 words or more is lent to them
abbrev pub Built : Table → Table → Table → Type 0
Built t s u =
    (xs : List Slot) × ItemsInOrder t xs × ((l : List ℕ) → 20 ≤ length l
    → AllAccepted (fresh_in t s) (inserts t l xs) × (u ≡ after_all (fresh_in t s) (inserts t l xs)))

-- ==== "If an item finds no place, answer 6 with its key": an item of the source has that key, and it has no place in the table built so far

pub record StuckAt (t s : Table) (key : ℕ) : Type 0 where
  pub before : List Slot
  pub item : Slot
  pub behind : List Slot
  pub ordered : ItemsInOrder t (before ++ (item ∷ behind))
  pub named : key_in t item ≡ key
  pub accepted : (l : List ℕ) → 20 ≤ length l → AllAccepted (fresh_in t s) (inserts t l before)
  pub none : (l : List ℕ) → 20 ≤ length l
      → let u = after_all (fresh_in t s) (inserts t l before) in NoPlaceFor u (header_of u) key

-- ==== "A source that is not sound gives 12, one in phase 1 or 2 gives 7, a second table of another length 13; these change nothing, in that order
-- after 1 of the source."; then 6: the first reason that holds refuses

abbrev pub convert_reasons : Table → Table → List (Type 0 × Refusal)
convert_reasons t s =
    bad_header t ∷ ((SoundTable t → ⊥), NoKind) ∷ (Resizing t, AlreadyResizing) ∷ ((length s ≡ length t → ⊥), BadCreation)
    ∷ (((key : ℕ) × StuckAt t s key), NoPlace) ∷ []

abbrev pub conversion_outcome : Conversion → Outcome
conversion_outcome (Ok tt) = listed []
conversion_outcome (Err (Stuck key)) = refused NoPlace
conversion_outcome (Err (Rejected r)) = refused r

abbrev pub ConvertRefusals : Type 0
ConvertRefusals = (t s : Table) → FirstRefuses (convert_reasons t s) (conversion_outcome (convert_result t s).0)

-- the number and the key that are answered, and what the second table is then, u. "these change nothing"; 6 is "the one refusal that changes a buffer"
abbrev pub Told : Conversion → ℕ → ℕ → Type 0
Told a number key = conversion_means a ≡ record { number = number; values = key ∷ [] }

abbrev pub LeavesBy : Table → Table → Conversion → Table → Type 0
LeavesBy t s (Ok tt) u = Told (Ok tt) 0 0 × ((create_result s (3 - word t 0) (word t 1) (word t 4) (word t 2) (word t 3)).0 ≡ Ok tt) × Built t s u
LeavesBy t s (Err (Stuck key)) u =
    Told (Err (Stuck key)) 6 key × StuckAt t s key × CreatedWords (length s) (3 - word t 0) (word t 1) (word t 4) (word t 2) (word t 3) u
LeavesBy t s (Err (Rejected r)) u = Told (Err (Rejected r)) (number_of r) 0 × (r ≡ NoPlace → ⊥) × (u ≡ s)

abbrev pub ConvertLeaves : Type 0
ConvertLeaves = (t s : Table) → LeavesBy t s (convert_result t s).0 (convert_result t s).1

-- "A set flag is 12 here, not 3."
abbrev pub FlagIsTwelve : Type 0
FlagIsTwelve =
    (t s : Table) → HeaderWords t → (word t 5 ≡ 0 → ⊥) → Told (convert_result t s).0 12 0 × ((convert_result t s).1 ≡ s)

-- ==== "Otherwise the two maps are equal."

-- the header of a table of the other form, at rest
abbrev pub other_header : Header → Header
other_header h = record { form = 3 - h.form; c = h.c; mul1 = h.mul1; mul2 = h.mul2; state = record { k = h.state.k; phase = 0 } }

pub record SameMaps (t u : Table) (h : Header) : Type 0 where
  pub sound : SoundTable u
  pub long : length u ≡ length t
  pub header : header_of u ≡ h
  pub maps : (m : PlainMap) → HasMap t m ↔ HasMap u m

abbrev pub ConvertKeepsTheMap : Type 0
ConvertKeepsTheMap =
    (t s u : Table) → convert_result t s ≡ (Ok tt, u) → SameMaps t u (other_header (header_of t))

-- "Where going and returning both succeed, the map is the original one.", and so are form, c, k and multipliers
abbrev pub ThereAndBack : Type 0
ThereAndBack =
    (t s u r v : Table) → convert_result t s ≡ (Ok tt, u) → convert_result u r ≡ (Ok tt, v) → SameMaps t v (header_of t)

-- what the second table held before plays no part: only its length counts, and where it is written all of it is
abbrev pub OldWordsPlayNoPart : Type 0
OldWordsPlayNoPart =
    (t s r : Table) → length s ≡ length r → ((convert_result t s).0 ≡ (convert_result t r).0)
    × (((e : Refusal) → (convert_result t s).0 ≡ Err (Rejected e) → ⊥) → (convert_result t s).1 ≡ (convert_result t r).1)
