-- What recovery finds, as the code comes to it.
-- Assumes nothing.
use Rattle.std.specs.Prelude.{ℕ, ◌-◌, ◌*◌, Bool, cond, ◌&&◌, leb, eqb, Option as Answer, Some, None}
use Rattle.std.proofs.Math.Option.{Option, none, some}
use Rattle.rules.specs.Choice.{given, first_of}
use Rattle.rules.specs.Words.{Table, record_in, token_of, meant_of, size_of, levels_in_use}
use Rattle.rules.specs.Soundness.{same_record}
use Rattle.rules.specs.declared.State.{State}
use Rattle.rules.specs.declared.Header.{Header}
use Rattle.rules.specs.declared.Level.{Level}
use Rattle.rules.specs.declared.Slot.{Slot}
use Rattle.rules.specs.declared.Finding.{Finding}
use Rattle.rules.specs.declared.Finding.TheVariants.{Sound, Doubled, Flagged, Neither}
use Rattle.reading.specs.Within.{SlotWithin}
use Rattle.scanning.specs.declared.copies.Scan.{Scan}
use Rattle.scanning.specs.declared.copies.Scan.TheVariants.{Clear, Pair, Spoilt}

-- ---- "every token word at most 15", which is of form 1, "and 0 in levels not in use"

unfoldable pub tidy_token : Table → Header → ℕ → Bool
tidy_token t h j = eqb (token_of t j) (meant_of t h j)

unfoldable pub zero_token : Table → ℕ → Bool
zero_token t j = eqb (token_of t j) 0

-- ---- word 6

-- "A level of M buckets (M a power of two) is always buckets M − 1 to 2M − 2."
unfoldable pub in_level : ℕ → Level → Bool
in_level j l = leb (size_of l - 1) j && leb j (2 * size_of l - 2)

-- the level in use that bucket j belongs to
unfoldable pub home_of : State → ℕ → Option Level
home_of s j = first_of (λ (l : Level). given (in_level j l) l) (levels_in_use s)

-- what the code answers of it, and of the slot that word 6 names
abbrev pub means : {A : Type 0} → Answer A → Option A
means (Some x) = some x
means None = none

-- ---- the kinds, by what a scan tells

abbrev pub still_of : Table → Scan → Finding
still_of t Clear = Sound
still_of t (Pair x y) = cond (same_record (record_in t x) (record_in t y)) (Doubled x y) Neither
still_of t Spoilt = Neither

abbrev pub flagged_of : Option Slot → Scan → Finding
flagged_of (some x) Clear = Flagged x
flagged_of (some x) (Pair y z) = Neither
flagged_of (some x) Spoilt = Neither
flagged_of none scan = Neither

-- ---- slots that are answered lie in the table

abbrev pub ScanWithin : Table → Scan → Type 0
ScanWithin t Clear = Unit {0}
ScanWithin t (Pair x y) = SlotWithin t x × SlotWithin t y
ScanWithin t Spoilt = Unit {0}

abbrev pub FindingWithin : Table → Finding → Type 0
FindingWithin t Sound = Unit {0}
FindingWithin t (Doubled x y) = SlotWithin t x × SlotWithin t y
FindingWithin t (Flagged x) = SlotWithin t x
FindingWithin t Neither = Unit {0}
