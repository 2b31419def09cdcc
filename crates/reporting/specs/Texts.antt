-- Request d): what is written as a report. "Lines, in order: `samples=`, `none=`, one `fn` line for each function ascending (as `fn10=3`),
-- `other=`, `buckets=`."
-- Assumes nothing.
use Rattle.std.specs.Prelude.{ℕ, List, [], ◌∷◌, ◌++◌}
use Rattle.rules.specs.Answers.{number_of}
use Rattle.lines.specs.Lines.{bytes}
use Rattle.lines.specs.Texts.{decimal_text}
use Rattle.saying.specs.Texts.{line_text}
use Rattle.crediting.specs.Ledgers.{Figures, Report, unmade, unrecovered, bad_line, counts}

-- "as `fn10=3`": the function, and its samples
unfoldable pub function_text : ℕ → ℕ → List ℕ
function_text f n = bytes "fn" ++ decimal_text f ++ bytes "=" ++ decimal_text n ++ (10 ∷ [])

-- for each function, in their order, with its samples
unfoldable pub function_texts : List ℕ → List ℕ → List ℕ
function_texts [] ns = []
function_texts (f ∷ fs) [] = []
function_texts (f ∷ fs) (n ∷ ns) = function_text f n ++ function_texts fs ns

unfoldable pub counts_text : Figures → List ℕ
counts_text x =
    line_text ("samples", x.samples) ++ line_text ("none", x.missing) ++ function_texts x.credits.functions x.credits.samples
    ++ line_text ("other", x.credits.other) ++ line_text ("buckets", x.buckets)

-- "`bad=` or `made=13` end it"; "`answer=12` is the whole report"
abbrev pub report_text : Report → List ℕ
report_text (unmade e) = line_text ("made", number_of e)
report_text (unrecovered e) = line_text ("answer", number_of e)
report_text (bad_line n) = line_text ("bad", n)
report_text (counts x) = counts_text x
