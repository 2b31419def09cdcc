-- Document 02, request h), "Move customers to form 2, and back": what convert answers, and what it leaves in the second table, on every input. The
-- source is only read.
-- Assumes nothing.
use Rattle.std.specs.Prelude.{ℕ, Bool, cond, length, eqb}
use mathlib.Core.List.{List, [], ◌∷◌, foldl}
use Rattle.rules.specs.Choice.{all}
use Rattle.rules.specs.Words.{Table, header_of, at_rest, key_in, record_in}
use Rattle.rules.specs.Stores.{made}
use Rattle.rules.specs.Soundness.{taken_slots, sound_tests}
use Rattle.rules.specs.Calls.{header_good, checked, Outcome, refused, listed, insert, outcome}
use Rattle.rules.specs.Results.{created}
use Rattle.rules.specs.declared.Header.{Header}
use Rattle.rules.specs.declared.Slot.{Slot}
use Rattle.rules.specs.declared.Refusal.{Refusal}
use Rattle.rules.specs.declared.Refusal.TheVariants.{BadHeader, AlreadyResizing, NoKind, BadCreation}
use Rattle.rules.specs.Answers.{Conversion}
use Rattle.rules.specs.declared.Unconverted.TheVariants.{Stuck, Rejected}
use Rattle.std.specs.Prelude.{Ok, Err}

-- "A source that is not sound gives 12, one in phase 1 or 2 gives 7, a second table of another length 13; these change nothing, in that order after 1
-- of the source. A set flag is 12 here, not 3.": flag 0 is part of soundness. n is the second table's length
unfoldable pub convert_tests : Table → ℕ → List (Bool × Refusal)
convert_tests t n =
    (header_good t, BadHeader) ∷ (all (sound_tests t), NoKind) ∷ (at_rest (header_of t).state, AlreadyResizing) ∷ (eqb n (length t), BadCreation) ∷ []

-- "create the other form there with the same c, k and multipliers"
unfoldable pub other_form : ℕ → ℕ
other_form form = cond (eqb form 1) 2 1

unfoldable pub fresh_for : Header → Table
fresh_for h = created (other_form h.form) h.c h.state.k h.mul1 h.mul2

-- where the inserts so far have led: to a table, or to the key of an item that found no place
pub data Filling : Type 0 where
  filled : Table → Filling
  stuck : ℕ → Filling

abbrev pub inserted_in : Table → ℕ → Outcome → Filling
inserted_in u key (listed stores) = filled (made u stores)
inserted_in u key (refused r) = stuck key

-- the insert of the item in slot x, and its stores made; 20 words of a list are enough for it
abbrev pub with_item : Table → Filling → Slot → Filling
with_item t (filled u) x = inserted_in u (key_in t x) (outcome u 20 (insert (key_in t x) (record_in t x)))
with_item t (stuck key) x = stuck key

-- "insert every item in probe-level order, bucket and slot ascending"
unfoldable pub filling : Table → Filling
filling t = foldl (with_item t) (filled (fresh_for (header_of t))) (taken_slots t)

-- "If an item finds no place, answer 6 with its key and leave the second table freshly created"
abbrev pub filled_to : Header → Filling → Conversion × Table
filled_to h (filled u) = (Ok tt, u)
filled_to h (stuck key) = (Err (Stuck key), fresh_for h)

-- the answer, and the second table at exit; at entry it is s
unfoldable pub convert_result : Table → Table → Conversion × Table
convert_result t s = checked (λ (r : Refusal). (Err (Rejected r), s)) (convert_tests t (length s)) (filled_to (header_of t) (filling t))
