-- No second answer keeps what start, read and finish promise: each promise is an equation.
-- Assumes nothing.
use Rattle.std.proofs.Common.{◌≡◌, Bool, sym, ◌∙◌}
use Rattle.lines.specs.declared.Line.{Line}
use Rattle.following.specs.Scripts.{start, reading_of, ending_of}
use Rattle.following.specs.declared.Script.{Script}
use Rattle.following.specs.declared.Reading.{Reading}
use Rattle.following.specs.declared.Ending.{Ending}

pub start-one : (r s : Script) → r ≡ start → s ≡ start → r ≡ s
start-one r s a b = a ∙ sym b

pub read_one : (script : Script) (line : Line) (r s : Reading) → r ≡ reading_of script line → s ≡ reading_of script line → r ≡ s
read_one script line r s a b = a ∙ sym b

pub finish_one : (script : Script) (torn : Bool) (r s : Ending) → r ≡ ending_of script torn → s ≡ ending_of script torn → r ≡ s
finish_one script torn r s a b = a ∙ sym b
