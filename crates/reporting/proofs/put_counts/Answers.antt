-- `reporting::put_counts` meets its contract.
-- Assumes nothing.
use Rattle.crediting.specs.Books.{figures_in}
use Rattle.reporting.proofs.Putting.{counts-put}
use Rattle.reporting.proofs.put_counts.Goals as goal

pub returns : goal.returns
returns c =
    counts-put (figures_in c.args.counts.now) c.put_line-second.ensures.0 c.put_line-third.ensures.0
    (rw (c.credits.ensures.functions, c.credits.ensures.samples) at c.put_functions-others.ensures.0) (rw c.other.ensures at c.put_line-last.ensures.0)
    c.put_line.ensures.0
