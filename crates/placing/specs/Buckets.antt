-- A bucket by value, and what slot choice makes of it and of its token word.
-- Assumes nothing.
use Rattle.std.specs.Prelude.{ℕ, suc, cond, List, [], ◌∷◌, map, get_or}
use Rattle.rules.specs.Words.{Table, slots_in, key_in, record_in, is_taken}
use Rattle.rules.specs.declared.Header.{Header}
use Rattle.rules.specs.declared.Place.{Place}
use Rattle.rules.specs.declared.Slot.{Slot}

-- "A slot is handled as one record of three words, a bucket as four such records."
unfoldable pub item_in : Table → Slot → List ℕ
item_in t x = key_in t x ∷ (record_in t x).function ∷ (record_in t x).place ∷ []

unfoldable pub items_in : Table → Place → List (List ℕ)
items_in t p = map (item_in t) (slots_in p)

-- the key of the record in slot s: its first word
unfoldable pub key_among : List (List ℕ) → ℕ → ℕ
key_among items s = get_or (get_or items s []) 0 0

-- "lowest free slot": of a bucket's records, the first whose slot its token word calls free; their number where there is none
abbrev pub free_from : Header → ℕ → ℕ → List (List ℕ) → ℕ
free_from h word s [] = s
free_from h word s (item ∷ items) = cond (is_taken h word s) (free_from h word (suc s) items) s

unfoldable pub first_free : Header → ℕ → List (List ℕ) → ℕ
first_free h word items = free_from h word 0 items
