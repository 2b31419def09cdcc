-- An input is split at its newlines, and nowhere else.
-- Assumes nothing.
use Prim.Native.Nat.{ℕ}
use mathlib.Core.Path.{◌≡◌, refl, ap, ◌∙◌}
use mathlib.Core.Bool.{Bool}
use mathlib.Core.List.{List, [], ◌∷◌, ◌++◌, append-nil}
use borrow.Author.Tests.{ne_eqb}
use Rattle.running.specs.Runs.{split, with_ends, NoNewline, Lines, some_of, LinesSplit}

-- bytes that are no newline begin the first line
split-line : (l after : List ℕ) → NoNewline l → split (l ++ (10 ∷ after)) ≡ (l ∷ (split after).0, (split after).1)
split-line [] after none = refl
split-line (b ∷ bs) after none = rw (ne_eqb b 10 none.0, split-line bs after none.1)

split_rest : (rest : List ℕ) → NoNewline rest → split rest ≡ ([], some_of rest)
split_rest [] none = refl
split_rest (b ∷ bs) none = rw (ne_eqb b 10 none.0, split_rest bs none.1)

-- ended lines come first, whatever stands behind them
pub split-lines : (ls : List (List ℕ)) (later : List ℕ) → Lines ls → split (with_ends ls later) ≡ (ls ++ (split later).0, (split later).1)
split-lines [] later lines = refl
split-lines (l ∷ ls) later lines =
    split-line l (with_ends ls later) lines.0 ∙ ap (λ (s : List (List ℕ) × Bool). (l ∷ s.0, s.1)) (split-lines ls later lines.1)

pub lines_split : LinesSplit
lines_split ls rest lines none = split-lines ls rest lines ∙ rw (split_rest rest none, append-nil)
