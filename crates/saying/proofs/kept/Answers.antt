-- `saying::kept` meets its contract: a change's lines, and one more after them.
-- Assumes nothing.
use Rattle.replaying.specs.declared.Answer.TheVariants.{Changed}
use Rattle.saying.specs.Texts.{lines_of}
use Rattle.saying.proofs.LinesPut.{line_after}
use Rattle.saying.proofs.kept.Goals as goal

pub returns : goal.returns
returns c = line_after (lines_of (Changed c.args.change)) _ c.changed-third.ensures.0 c.put_line.ensures.0
