-- `lines::parse` meets its contract: what the line says is what the rows from this one on say of it.
-- Assumes nothing.
use Rattle.std.proofs.Common.{◌≡◌, drop}
use Rattle.lines.specs.Lines.{line_of}
use Rattle.lines.proofs.Rows.{first_said}
use Rattle.lines.proofs.parse.Given as goal

abbrev pub invariant-loop-text : goal.invariant-loop-text
invariant-loop-text l = line_of l.line ≡ first_said (drop l.text-index l.text-items) l.line
