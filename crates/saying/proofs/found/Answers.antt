-- `saying::found` meets its contract: its lines are put one after the other.
-- Assumes nothing.
use Rattle.saying.proofs.LinesPut.{found-put, line_before, last_line}
use Rattle.saying.proofs.found.Goals as goal

pub returns : goal.returns
returns c =
    found-put c.query_words-told.ensures (line_before _ _ c.put_line-second.ensures.0
    (line_before _ _ c.put_line-third.ensures.0
    (line_before _ _ c.put_line-fourth.ensures.0
    (line_before _ _ c.put_line-fifth.ensures.0 (line_before _ _ c.put_line-sixth.ensures.0 (last_line _ c.put_line.ensures.0))))))
