-- What `say` promises on every answer and every buffer: the answer's text stands at the front, and nothing else changes.
-- Here l is the buffer at entry and m the buffer at exit; r is the result.
-- Assumes nothing.
use Rattle.std.specs.Prelude.{ℕ, ◌≤◌, ◌≡◌, List, length, take, drop}
use Rattle.io.specs.Counts.{IsPrefixLen}
use Rattle.replaying.specs.declared.Answer.{Answer}
use Rattle.saying.specs.Texts.{text_of}

-- `within` follows from the others. It is here for a caller who lends those bytes on, as `&out[..r]`; `room` is for one who puts them
-- into a longer buffer
pub record Said (answer : Answer) (l : List ℕ) (r : ℕ) (m : List ℕ) : Type 0 where
  pub size : r ≡ length (text_of answer)
  pub text : take r m ≡ text_of answer
  pub rest : drop r m ≡ drop r l
  pub within : IsPrefixLen r m
  pub room : r ≤ length l
