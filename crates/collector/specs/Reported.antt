-- What a caller in C sees of a changing call or recovery q: the result r is document 01's number, and the word lent for them holds the
-- stores. t and l are the table and the list at entry, u and m at exit.
-- Assumes nothing.
use Rattle.std.specs.Prelude.{ℕ, List, [], ◌∷◌}
use Rattle.rules.specs.Words.{Table}
use Rattle.rules.specs.Calls.{Call}
use Rattle.numbering.specs.Told.{told_with}
use Rattle.listing.specs.Promises.{ChangedBy, WentOnBy}

abbrev pub Reported : Call → Table → List ℕ → ℕ → ℕ → Table → List ℕ → Type 0
Reported q t l r stores u m = ChangedBy q t l (told_with r (stores ∷ [])) u m

-- of a step from bucket b on: the words lent for the answer hold the stores and the bucket
abbrev pub ReportedFrom : ℕ → Table → List ℕ → ℕ → List ℕ → Table → List ℕ → Type 0
ReportedFrom b t l r answer u m = WentOnBy b t l (told_with r answer) u m
