-- Texts put into a buffer one after the other.
-- Assumes nothing.
use Rattle.std.specs.Prelude.{ℕ, ◌+◌, ◌≤◌, ◌≡◌, length, take}
use mathlib.Core.List.{List, [], ◌∷◌, ◌++◌, flat_map}
use Rattle.std.proofs.lemmas.List.Edits.{sets}
use Rattle.io.specs.Counts.{IsPrefixLen}
use Rattle.replaying.specs.declared.Answer.{Answer}
use Rattle.lines.specs.Texts.{decimal_text}
use Rattle.saying.specs.Texts.{Line, line_text, lines_of}

-- buffer l with a text from byte `at` on
unfoldable pub put_at : List ℕ → ℕ → List ℕ → List ℕ
put_at l at text = sets l at text

-- the text had room in l and makes it m, and r is the next free byte
pub record Put (text : List ℕ) (at : ℕ) (l : List ℕ) (r : ℕ) (m : List ℕ) : Type 0 where
  pub room : at + length text ≤ length l
  pub next : r ≡ at + length text
  pub buffer : m ≡ put_at l at text

-- a text that is put at the front. `within` follows from the other: it is here for a caller who lends those bytes on, as `&out[..r]`
pub record PutFront (text l : List ℕ) (r : ℕ) (m : List ℕ) : Type 0 where
  pub put : Put text 0 l r m
  pub within : IsPrefixLen r m

-- a text stands at the front of a buffer
abbrev pub Fronted : List ℕ → List ℕ → Type 0
Fronted out text = take (length text) out ≡ text

-- a line whose name comes with its `=`
unfoldable pub line_with : List ℕ → ℕ → List ℕ
line_with name number = name ++ decimal_text number ++ (10 ∷ [])

-- lines, and an answer's lines, put from byte `at` on
abbrev pub PutAll : List Line → ℕ → List ℕ → ℕ → List ℕ → Type 0
PutAll lines at l r m = Put (flat_map line_text lines) at l r m

abbrev pub PutLines : Answer → ℕ → List ℕ → ℕ → List ℕ → Type 0
PutLines answer at l r m = PutAll (lines_of answer) at l r m
