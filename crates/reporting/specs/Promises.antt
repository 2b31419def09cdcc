-- What `report` promises of every ledger and every buffer that is long enough: the report's text stands at the front, and nothing else changes.
-- Assumes nothing.
use Rattle.std.specs.Prelude.{ℕ, List}
use Rattle.saying.specs.Writing.{PutFront}
use Rattle.crediting.specs.Ledgers.{Report}
use Rattle.reporting.specs.Texts.{report_text}

-- the longest report: its four lines with twenty digits each, and 512 lines of functions with two numbers each
abbrev pub longest : ℕ
longest = 22639

-- l is the buffer at entry and m the buffer at exit; r is the result
abbrev pub Reported : Report → List ℕ → ℕ → List ℕ → Type 0
Reported x l r m = PutFront (report_text x) l r m
