-- Request d), "The sample ledger.": the bytes that are written for an input.
-- Assumes nothing.
use Rattle.std.specs.Prelude.{ℕ, List}
use Rattle.posting.specs.Posts.{report_to}
use Rattle.reporting.specs.Texts.{report_text}

-- the text of the report of an input, on lent words
unfoldable pub output_to : List ℕ → List ℕ → List ℕ
output_to room input = report_text (report_to room input)
