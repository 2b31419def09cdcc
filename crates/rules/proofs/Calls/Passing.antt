-- A sound table passes tests 1, 2 and 3, with a list of 20 words or more: what a call then answers is what it does.
-- Assumes nothing.
use Prim.Native.Nat.{ℕ, ◌≤◌}
use mathlib.Core.Path.{◌≡◌, refl}
use mathlib.Core.List.{List}
use lib.ListN.{length}
use borrow.Author.Tests.{le-leb, eq-eqb}
use Rattle.rules.specs.Words.{Table, header_of, GoodHeader, flag_of}
use Rattle.rules.specs.Stores.{Store, made}
use Rattle.rules.specs.Soundness.{PlainMap}
use Rattle.rules.specs.Calls.{header_good, list_long, flag_clear, checked, changing_tests, Outcome, refused, listed}
use Rattle.rules.specs.Demands.{Given, Gives, with_state}
use Rattle.rules.proofs.Words.Headers.{header_passes}
use Rattle.rules.proofs.Carrying.Putting.{SoundMap, Becomes}

pub passes_tests : (t : Table) (n : ℕ) → GoodHeader (length t) (header_of t) → 20 ≤ n → flag_of t ≡ 0 → (o : Outcome)
    → checked refused (changing_tests t n) o ≡ o
unfolding changing_tests header_good list_long flag_clear
passes_tests t n g l f o = rw (header_passes (length t) (header_of t) g, le-leb 20 n l, eq-eqb _ _ f)

pub passes : (t : Table) (m : PlainMap) (n : ℕ) → Given t m n → (o : Outcome) → checked refused (changing_tests t n) o ≡ o
passes t m n g o = passes_tests t n g.sound.orderly.header g.room g.sound.orderly.flag o

pub whole_of : (t : Table) (m : PlainMap) (n : ℕ) → Given t m n → SoundMap t m
whole_of t m n g = record { sound = g.sound; map = g.map }

-- a call that lists stores, in whole
unfoldable pub gives : (t : Table) (m : PlainMap) (xs : List Store) → Becomes t (made t xs) m → Gives t (listed xs) m (header_of t).state
unfolding with_state
gives t m xs b = record { stores = xs; answer = refl; sound = b.whole.sound; map = b.whole.map; header = b.header }
