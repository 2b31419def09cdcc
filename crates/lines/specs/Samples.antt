-- Request d): what a line of the ledger says. A line here is its bytes without the newline.
-- Assumes nothing.
use Rattle.std.specs.Prelude.{ℕ, ◌^◌, ◌<◌, ◌≡◌, cond, List, ◌++◌, drop}
use Rattle.std.proofs.Math.Option.{Option, none, some}
use Rattle.lines.specs.Lines.{bytes, begins, decimal_of}
use Rattle.lines.specs.Texts.{decimal_text}
use Rattle.lines.specs.declared.Sample.{Sample}
use Rattle.lines.specs.declared.Sample.TheVariants.{Key, Bad, Other}

-- "lines `sample=` with a key": with a decimal, as the other lines have it
abbrev pub key_found : Option ℕ → Sample
key_found (some key) = Key key
key_found none = Bad

unfoldable pub sample_of : List ℕ → Sample
sample_of line = cond (begins (bytes "sample=") line) (key_found (decimal_of (drop 7 line))) Other

-- the same in facts: its text says a sample of a key, and no other bytes do
abbrev pub sample_text : ℕ → List ℕ
sample_text key = bytes "sample=" ++ decimal_text key

abbrev pub SampleTextsSay : Type 0
SampleTextsSay = (key : ℕ) → key < 2 ^ 64 → sample_of (sample_text key) ≡ Key key

abbrev pub OnlySampleTextsSay : Type 0
OnlySampleTextsSay = (line : List ℕ) (key : ℕ) → sample_of line ≡ Key key → (line ≡ sample_text key) × (key < 2 ^ 64)

-- "the first line that starts with `sample=`": it does, whatever follows, and a line of a script does not
abbrev pub SamplesStart : Type 0
SamplesStart = (rest : List ℕ) → sample_of (bytes "sample=" ++ rest) ≡ Other → ⊥

abbrev pub OthersDoNot : Type 0
OthersDoNot = (line : List ℕ) → (sample_of line ≡ Other → ⊥) → (rest : List ℕ) × (line ≡ bytes "sample=" ++ rest)
