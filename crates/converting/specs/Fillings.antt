-- A second table as the code fills it: bucket by bucket, with the items of the source's taken slots.
-- t is the source, u the second table at entry and v at exit.
-- Assumes nothing.
use Rattle.std.specs.Prelude.{ℕ, ◌≡◌, length, Result, Ok, Err}
use mathlib.Core.List.{List, ◌∷◌, ◌++◌, foldl, Memᴰ as In}
use Rattle.std.proofs.Math.Option.{none}
use Rattle.rules.specs.Choice.{select}
use Rattle.rules.specs.Words.{Table, header_of, taken, key_in}
use Rattle.rules.specs.Soundness.{PlainMap}
use Rattle.rules.specs.Calls.{insert_in, insert, outcome}
use Rattle.rules.specs.Demands.{Given}
use Rattle.rules.specs.Conversions.{Filling, filled, stuck, inserted_in, with_item, filling, filled_to, convert_result}
use Rattle.rules.specs.declared.Header.{Header}
use Rattle.rules.specs.declared.Slot.{Slot}
use Rattle.rules.specs.declared.Record.{Record}
use Rattle.rules.specs.declared.Lookup.TheVariants.{Absent}
use Rattle.rules.specs.Answers.{Conversion}
use Rattle.reading.specs.Gates.{Headed}

-- the taken ones of some slots
unfoldable pub items_in : Table → Header → List Slot → List Slot
items_in t h xs = select (taken t h) xs

-- whether every item so far has found its place, or the key of the one that has not
abbrev pub Progress : Type 0
Progress = Result (Unit {0}) ℕ

-- where the inserts so far have led. With a key that found no place the table's words play no part
abbrev pub filling_of : Progress → Table → Filling
filling_of (Ok tt) u = filled u
filling_of (Err key) u = stuck key

-- the key is not in the table u, with the header `to`: so its insert is what it is where the lookup finds nothing
pub record Unsought (u : Table) (to : Header) (key : ℕ) (r : Record) : Type 0 where
  pub headed : Headed u to
  pub absent : outcome u 20 (insert key r) ≡ insert_in u to (Absent 0) key r

-- a key with its record is inserted, and the stores of that are made; or it finds no place
pub record PutIn (u : Table) (key : ℕ) (r : Record) (p : Progress) (v : Table) : Type 0 where
  pub filling : filling_of p v ≡ inserted_in u key (outcome u 20 (insert key r))
  pub long : length v ≡ length u

-- the table u, with the header `to`, may take the items of the slots xs: it is sound, no two of them have one key, and it has none of their keys
pub record MayTake (t : Table) (to : Header) (u : Table) (xs : List Slot) : Type 0 where
  pub map : PlainMap
  pub given : Given u map 20
  pub header : to ≡ header_of u
  pub apart : (before behind : List Slot) (x y : Slot) → xs ≡ before ++ (x ∷ behind) → In y behind → key_in t x ≡ key_in t y → ⊥
  pub free : (x : Slot) → In x xs → map (key_in t x) ≡ none

-- the items of the slots xs are inserted, up to the first that finds no place
pub record Fills (t u : Table) (xs : List Slot) (r : Progress) (v : Table) : Type 0 where
  pub filling : filling_of r v ≡ foldl (with_item t) (filled u) xs
  pub long : length v ≡ length u

-- behind all tests
abbrev pub ConvertedAt : Table → Header → Conversion → Table → Type 0
ConvertedAt t h r v = ◌≡◌ {A = Conversion × Table} (r, v) (filled_to h (filling t))

-- behind test 1
abbrev pub ConvertsAt : Table → Table → Conversion → Table → Type 0
ConvertsAt t s r v = ◌≡◌ {A = Conversion × Table} (r, v) (convert_result t s)
