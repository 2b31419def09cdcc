-- Document 01, "Refusal numbers": what each case of an answer means as this paper's number and values; with the numbers that document 02
-- adds.
-- Assumes nothing.
use Rattle.std.specs.Prelude.{ℕ, ◌≡◌, List, [], ◌∷◌, ◌++◌, Result, Ok, Err}
use Rattle.rules.specs.Words.{top, spot_of}
use Rattle.rules.specs.declared.Record.{Record}
use Rattle.rules.specs.declared.Spot.{Spot}
use Rattle.rules.specs.declared.Slot.{Slot}
use Rattle.rules.specs.declared.Lookup.{Lookup}
use Rattle.rules.specs.declared.Lookup.TheVariants.{Stands, Absent}
use Rattle.rules.specs.declared.Placing.{Placing}
use Rattle.rules.specs.declared.Placing.TheVariants.{Free, Move, Nowhere}
use Rattle.rules.specs.declared.Finding.{Finding}
use Rattle.rules.specs.declared.Finding.TheVariants.{Sound, Doubled, Flagged, Neither}
use Rattle.rules.specs.declared.Refusal.{Refusal}
use Rattle.rules.specs.declared.Refusal.TheVariants.{BadHeader, ShortList, FlagSet, KeyPresent, KeyAbsent, NoPlace, AlreadyResizing, NotResizing}
use Rattle.rules.specs.declared.Refusal.TheVariants.{AtCapacity, InterimTaken, InterimEmpty, NoKind, BadCreation, BadMaking}
use Rattle.rules.specs.declared.Refusal.TheVariants.{ShortRecords, BadPosition, TooSmall}
use Rattle.rules.specs.declared.Stepped.{Stepped}
use Rattle.rules.specs.declared.SteppedFrom.{SteppedFrom}
use Rattle.rules.specs.declared.Known.{Known}
use Rattle.rules.specs.declared.Missed.{Missed}
use Rattle.rules.specs.declared.Unconverted.{Unconverted}
use Rattle.rules.specs.declared.Unconverted.TheVariants.{Stuck, Rejected}
use Rattle.rules.specs.declared.Side.{Side}
use Rattle.rules.specs.declared.Side.TheVariants.{Newer, Older}
use Rattle.rules.specs.declared.Hit.{Hit}
use Rattle.rules.specs.declared.Miss.{Miss}

-- ---- the answers, each a success or a refusal

-- insert, update, delete, begin, shrink, back, end and recover: the number of stores
abbrev pub Change : Type 0
Change = Result ℕ Refusal

-- create and make
abbrev pub Verdict : Type 0
Verdict = Result (Unit {0}) Refusal

abbrev pub Query : Type 0
Query = Result Known Missed

abbrev pub knows : Record → Spot → ℕ → Query
knows r x n = Ok (record { what = r; spot = x; looked = n })

abbrev pub missed_by : Refusal → ℕ → Missed
missed_by r n = record { refusal = r; looked = n }

abbrev pub misses : Refusal → ℕ → Query
misses r n = Err (missed_by r n)

-- the chain of inlined callers: its count
abbrev pub Chain : Type 0
Chain = Result ℕ Missed

abbrev pub breaks : Refusal → ℕ → Chain
breaks r n = Err (missed_by r n)

abbrev pub Conversion : Type 0
Conversion = Result (Unit {0}) Unconverted

-- two tables asked as one
abbrev pub Asked : Type 0
Asked = Result Hit Miss

abbrev pub hits : Side → ℕ → ℕ → Asked
hits side w n = Ok (record { side = side; word = w; looked = n })

abbrev pub lacks : Side → Refusal → ℕ → Asked
lacks side r n = Err (record { side = side; refusal = r; looked = n })

-- ---- what they mean

-- "no. | given when | by"
abbrev pub number_of : Refusal → ℕ
number_of BadHeader = 1  -- "length, form, c, multipliers or state bad"
number_of ShortList = 2  -- "list shorter than 20 words"
number_of FlagSet = 3  -- "flag not 0"
number_of KeyPresent = 4  -- "key present"
number_of KeyAbsent = 5  -- "key absent"
number_of NoPlace = 6  -- "no place"
number_of AlreadyResizing = 7  -- "already growing"; document 02, request f): "in phase 1 or 2"
number_of NotResizing = 8  -- "not growing"; request f): "At rest"
number_of AtCapacity = 9  -- "k = c"
number_of InterimTaken = 10  -- "interim not empty"
number_of InterimEmpty = 11  -- "interim empty"
number_of NoKind = 12  -- "none of the three kinds above"
number_of BadCreation = 13  -- "c, first k (1 to c), length or a multiplier bad"
number_of BadMaking = 14  -- "n pairs are not in the list, or an index among them is outside the table"
-- document 02, request a)
number_of ShortRecords = 15  -- "fewer than 2(d + 1) words"
number_of BadPosition = 16  -- "an address of 2^56 or more, or a depth above 255"
-- document 02, request f)
number_of TooSmall = 17  -- "k at least 2, else"

-- this paper's number, "0 is success", and the values beside it
pub record Meaning : Type 0 where
  pub number : ℕ
  pub values : List ℕ

-- the number of stores: "A refusal .. reports 0 stores."
abbrev pub change_means : Change → Meaning
change_means (Ok stores) = record { number = 0; values = stores ∷ [] }
change_means (Err r) = record { number = number_of r; values = 0 ∷ [] }

-- document 02, request e): "the word index of the key found and whether it was top, bottom or interim; with any refusal, index 0 and top"
abbrev pub spot_means : Spot → List ℕ
spot_means x = x.word ∷ x.level ∷ []

abbrev pub no_spot : Spot
no_spot = record { word = 0; level = top }

-- function, place and probe count: "Query returns zeros with 5 and the full probe count; with 1 or 3 zeros and count 0."; then the spot
abbrev pub query_means : Query → Meaning
query_means (Ok x) = record { number = 0; values = x.what.function ∷ x.what.place ∷ x.looked ∷ spot_means x.spot }
query_means (Err x) = record { number = number_of x.refusal; values = 0 ∷ 0 ∷ x.looked ∷ spot_means no_spot }

-- its count
abbrev pub chain_means : Chain → Meaning
chain_means (Ok count) = record { number = 0; values = count ∷ [] }
chain_means (Err x) = record { number = number_of x.refusal; values = x.looked ∷ [] }

-- document 02, request h): "answer 6 with its key"; else the key is 0
abbrev pub conversion_means : Conversion → Meaning
conversion_means (Ok tt) = record { number = 0; values = 0 ∷ [] }
conversion_means (Err (Stuck key)) = record { number = number_of NoPlace; values = key ∷ [] }
conversion_means (Err (Rejected r)) = record { number = number_of r; values = 0 ∷ [] }

-- document 02, request i): "the refusal number, the table's name and the buckets looked at"
-- "the table's name (0 newer, 1 older)"
abbrev pub name_of : Side → ℕ
name_of Newer = 0
name_of Older = 1

abbrev pub asked_means : Asked → Meaning
asked_means (Ok x) = record { number = 0; values = name_of x.side ∷ x.looked ∷ [] }
asked_means (Err x) = record { number = number_of x.refusal; values = name_of x.side ∷ x.looked ∷ [] }

abbrev pub verdict_means : Verdict → Meaning
verdict_means (Ok tt) = record { number = 0; values = [] }
verdict_means (Err r) = record { number = number_of r; values = [] }

-- ---- what the calls' own searches answer: a slot is level, bucket and slot

abbrev pub slot_means : Slot → List ℕ
slot_means x = x.level ∷ x.bucket ∷ x.slot ∷ []

-- "5 | key absent"; the probe count and the spot, as query tells them, and for the calls that rest on it the bucket and the slot
abbrev pub lookup_means : Lookup → Meaning
lookup_means (Stands x count) = record { number = 0; values = count ∷ spot_means (spot_of x) ++ (x.bucket ∷ x.slot ∷ []) }
lookup_means (Absent count) = record { number = number_of KeyAbsent; values = count ∷ spot_means no_spot }

-- "6 | no place"
abbrev pub placing_means : Placing → Meaning
placing_means (Free x) = record { number = 0; values = slot_means x }
placing_means (Move from to) = record { number = 0; values = slot_means from ++ slot_means to }
placing_means Nowhere = record { number = number_of NoPlace; values = [] }

-- "12 | none of the three kinds above"; of the three kinds, the number of stores and the slots they are about
abbrev pub finding_means : Finding → Meaning
finding_means Sound = record { number = 0; values = 0 ∷ [] }
finding_means (Doubled kept later) = record { number = 0; values = 1 ∷ slot_means kept ++ slot_means later }
finding_means (Flagged x) = record { number = 0; values = 3 ∷ slot_means x }
finding_means Neither = record { number = number_of NoKind; values = 0 ∷ [] }

-- what such a search promises of its answer a, where b is the rules': the same number and values
pub record LookupTells (a b : Lookup) : Type 0 where
  pub same : lookup_means a ≡ lookup_means b

pub record PlacingTells (a b : Placing) : Type 0 where
  pub same : placing_means a ≡ placing_means b

pub record FindingTells (a b : Finding) : Type 0 where
  pub same : finding_means a ≡ finding_means b

-- a step's answer: its number and stores, then its placing
unfoldable pub stepped_means : Stepped → Meaning
stepped_means s = record { number = (change_means s.change).number; values = (change_means s.change).values ++ (placing_means s.placing).values }

-- the answer of a step from a given bucket on: its number, its stores and the bucket; then its placing
abbrev pub gone_on_means : SteppedFrom → Meaning
gone_on_means s = record { number = (change_means s.stepped.change).number; values = (change_means s.stepped.change).values ++ (s.bucket ∷ []) }

unfoldable pub stepped_from_means : SteppedFrom → Meaning
stepped_from_means s = record { number = (gone_on_means s).number; values = (gone_on_means s).values ++ (placing_means s.stepped.placing).values }
