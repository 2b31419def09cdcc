-- No second answer and no second line at exit keeps what a parser promises.
-- Assumes nothing.
use Prim.Native.Nat.{ℕ}
use mathlib.Core.Path.{◌≡◌, sym, ◌∙◌}
use mathlib.Core.List.{List}
use Rattle.lines.specs.Promises.{Parsed, SampleParsed}
use Rattle.lines.specs.declared.Line.{Line}
use Rattle.lines.specs.declared.Sample.{Sample}

pub parsed_one : (line : List ℕ) (r s : Line) (u v : List ℕ) → Parsed line r u → Parsed line s v → (r ≡ s) × (u ≡ v)
parsed_one line r s u v p q = (p.answer ∙ sym q.answer, p.stays ∙ sym q.stays)

pub sample_one : (line : List ℕ) (r s : Sample) (u v : List ℕ) → SampleParsed line r u → SampleParsed line s v → (r ≡ s) × (u ≡ v)
sample_one line r s u v p q = (p.answer ∙ sym q.answer, p.stays ∙ sym q.stays)
