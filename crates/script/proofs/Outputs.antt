-- What is written for an input fed byte by byte is what its lines are answered.
-- Assumes nothing.
use mathlib.Core.Path.{◌≡◌, refl, sym, ap, ◌∙◌}
use mathlib.Core.List.{List, [], ◌∷◌, flat_map}
use Rattle.replaying.specs.declared.Answer.{Answer}
use Rattle.replaying.specs.declared.Answer.TheVariants.{Nothing, Created, Changed, Kept, Found, Events, Bad}
use Rattle.running.specs.Runs.{ready, fed, answers_to, spoken}
use Rattle.running.proofs.Whole.{bytes_answer_as_lines}
use Rattle.saying.specs.Texts.{text_of}
use Rattle.script.specs.Outputs.{output_to, BytesWritten}

-- an answer that says nothing has no text
pub spoken-text : (xs : List Answer) → flat_map text_of (spoken xs) ≡ flat_map text_of xs
unfolding flat_map text_of
spoken-text [] = refl
spoken-text (Nothing ∷ xs) = spoken-text xs
spoken-text (Created v ∷ xs) = rw (spoken-text xs)
spoken-text (Changed r ∷ xs) = rw (spoken-text xs)
spoken-text (Kept r n ∷ xs) = rw (spoken-text xs)
spoken-text (Found q ∷ xs) = rw (spoken-text xs)
spoken-text (Events n ∷ xs) = rw (spoken-text xs)
spoken-text (Bad n ∷ xs) = rw (spoken-text xs)

pub bytes_written : BytesWritten
unfolding output_to
bytes_written room line input long =
    sym (spoken-text (fed ready room line input)) ∙ ap (flat_map text_of) (bytes_answer_as_lines room line input long) ∙ spoken-text (answers_to room input)
