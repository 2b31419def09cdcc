-- What the tests 1, 2 and 3 leave: a good header, or the refusal of the first that fails.
-- Assumes nothing.
use Rattle.std.specs.Prelude.{◌≡◌, Bool, cond, List, [], ◌∷◌, length, Result, Ok, Err}
use Rattle.rules.specs.Words.{Table, header_of, GoodHeader}
use Rattle.rules.specs.Calls.{header_good, checked}
use Rattle.rules.specs.declared.Header.{Header}
use Rattle.rules.specs.declared.Refusal.{Refusal}
use Rattle.rules.specs.declared.Refusal.TheVariants.{BadHeader}

-- a good header to go on with, or a refusal
abbrev pub Gate : Type 0
Gate = Result Header Refusal

-- the header where all tests pass, else the refusal of the first that fails
unfoldable pub gate_of : Table → List (Bool × Refusal) → Gate
gate_of t tests = checked Err tests (Ok (header_of t))

-- one test more: an open gate stays open only where it passes
abbrev pub also : Bool → Refusal → Gate → Gate
also b x (Ok h) = cond b (Ok h) (Err x)
also b x (Err r) = Err r

-- test 1 alone
unfoldable pub header_test : Table → List (Bool × Refusal)
header_test t = (header_good t, BadHeader) ∷ []

-- the table's own header, which is good
pub record Headed (t : Table) (h : Header) : Type 0 where
  pub own : h ≡ header_of t
  pub good : GoodHeader (length t) h

-- what an open gate is open with: the table's own header, and it is good
abbrev pub Ready : Table → Gate → Type 0
Ready t (Ok h) = (h ≡ header_of t) × GoodHeader (length t) h
Ready t (Err r) = Unit {0}
