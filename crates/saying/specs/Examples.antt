-- Document 01's output lines as one table under one statement, computed from the definitions of `Texts`.
--
-- A row holds an answer and what document 01 writes for it, "lines joined by commas here" and there each ended by a newline.
-- The last rows are what it writes of a cut, of a table that is not made and of a bad line, with the longest numbers.
-- Assumes nothing.
use Prim.Native.String.{String}
use Rattle.std.specs.Prelude.{◌≡◌, refl}
use mathlib.Core.List.{List, [], ◌∷◌, map, flat_map}
use Rattle.std.specs.Prelude.{Ok, Err}
use Rattle.rules.specs.declared.Refusal.TheVariants.{KeyAbsent, NotResizing, BadCreation}
use Rattle.replaying.specs.declared.Answer.{Answer}
use Rattle.replaying.specs.declared.Answer.TheVariants.{Nothing, Created, Changed, Kept, Found, Events, Bad}
use Rattle.lines.specs.Lines.{bytes}
use Rattle.lines.specs.Texts.{digits_in, decimal_text}
use Rattle.rules.specs.Answers.{knows, misses}
use Rattle.saying.specs.Texts.{text_of}

abbrev pub table : List (Answer × String)
table =
    (Nothing, "")
    ∷ (Created (Ok tt), "made=0\n")
    ∷ (Changed (Ok 4), "answer=0\nstores=4\n")
    ∷ (Changed (Err NotResizing), "answer=8\nstores=0\n")
    ∷ (Found (knows (record { function = 10; place = 20 }) (record { word = 36; level = 0 }) 1), "answer=0\nfn=10\nat=20\nprobes=1\nword=36\nlevel=0\n")
    ∷ (Found (misses KeyAbsent 2), "answer=5\nfn=0\nat=0\nprobes=2\nword=0\nlevel=0\n")
    ∷ (Events 3, "events=3\n")
    ∷ (Created (Err BadCreation), "made=13\nevents=0\n")
    ∷ (Kept (Ok 7) 5, "answer=0\nstores=7\nkept=5\n")
    ∷ (Bad 100, "bad=100\n")
    ∷ (
      Found (knows (record { function = 18446744073709551615; place = 9999999999999999999 }) (record { word = 40; level = 2 }) 10000000000000000000),
      "answer=0\nfn=18446744073709551615\nat=9999999999999999999\nprobes=10000000000000000000\nword=40\nlevel=2\n",
    )
    ∷ []

-- the definitions compute what document 01 writes
pub examples : map (λ (x : Answer × String). text_of x.0) table ≡ map (λ (x : Answer × String). bytes x.1) table
unfolding flat_map digits_in decimal_text text_of
examples = refl
