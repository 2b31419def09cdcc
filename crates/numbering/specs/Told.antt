-- An answer as a number and the values that go with it.
-- Assumes nothing.
use Rattle.std.specs.Prelude.{ℕ, List, [], ◌∷◌}
use Rattle.rules.specs.Answers.{Meaning}
use Rattle.numbering.specs.declared.QueryWords.{QueryWords}
use Rattle.numbering.specs.declared.ConversionWords.{ConversionWords}

abbrev pub told_with : ℕ → List ℕ → Meaning
told_with r values = record { number = r; values = values }

abbrev pub told : ℕ → Meaning
told r = told_with r []

abbrev pub words_mean : QueryWords → Meaning
words_mean w = told_with w.number (w.function ∷ w.place ∷ w.buckets ∷ w.word ∷ w.level ∷ [])

abbrev pub conversion_words_mean : ConversionWords → Meaning
conversion_words_mean w = told_with w.number (w.key ∷ [])
