-- `reading::tokens::lowest_free` meets its contract: its table has the right entry for each token number.
-- Assumes nothing.
use mathlib.Core.Path.{refl}
use mathlib.Core.Bool.{not}
use Prim.Native.Nat.{ℕ}
use Rattle.rules.specs.Words.{token_number, is_taken, lowest, lowest_free}
use Rattle.rules.proofs.Basics.Lowest.{lowest_low}
use Rattle.reading.proofs.TokenWords.{told}
use Rattle.reading.proofs.tokens.lowest_free.Goals as goal

pub returns : goal.returns
unfolding lowest_free is_taken token_number
returns c =
    let a = c.args in
    let e = told a.h _ (λ p. lowest (λ (s : ℕ). not (p s))) refl _ c.entry.ensures in
    (e, lowest_low (λ (s : ℕ). not (is_taken a.h a.word s)) _ e)
