-- What the two parsers promise, whatever bytes they are handed: what the line says, and that the line, which is only read, stays.
-- Assumes nothing.
use Rattle.std.specs.Prelude.{ℕ, ◌≡◌, List}
use Rattle.lines.specs.Lines.{line_of}
use Rattle.lines.specs.Samples.{sample_of}
use Rattle.lines.specs.declared.Line.{Line}
use Rattle.lines.specs.declared.Sample.{Sample}

-- r is the answer, and after the line at exit
pub record Parsed (line : List ℕ) (r : Line) (after : List ℕ) : Type 0 where
  pub answer : r ≡ line_of line
  pub stays : after ≡ line

pub record SampleParsed (line : List ℕ) (r : Sample) (after : List ℕ) : Type 0 where
  pub answer : r ≡ sample_of line
  pub stays : after ≡ line
