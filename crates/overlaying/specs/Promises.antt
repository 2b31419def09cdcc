-- What the two calls over two tables promise on every input: the answer that document 02 fixes, and the part, which is memory of the table that holds
-- the key. Both tables are only read, and stay. Here t is the newer table and u the older, at exit x and y.
-- Assumes nothing.
use Rattle.std.specs.Prelude.{ℕ, ◌+◌, ◌*◌, ◌^◌, ◌≤◌, ◌<◌, ◌≡◌, List, take, drop}
use Rattle.std.specs.Borrow.{Bor}
use Rattle.rules.specs.Words.{Table, key_word}
use Rattle.rules.specs.Answers.{Meaning, asked_means}
use Rattle.rules.specs.Overlays.{named, asked_result, part_result, words_of}
use Rattle.rules.specs.declared.Lookup.{Lookup}
use Rattle.rules.specs.declared.Lookup.TheVariants.{Stands, Absent}
use Rattle.rules.specs.Answers.{Asked}

-- what a lookup has found: a slot whose words have a number, after at most six buckets
abbrev pub Near : Lookup → Type 0
Near (Stands x n) = ((x.bucket < 2 ^ 59) × (x.slot < 4)) × (n ≤ 6)
Near (Absent n) = n ≤ 6

-- asked answers a number, the table's name and the buckets looked at: those of document 02
pub record AsksBy (t u : Table) (key : ℕ) (told : Meaning) (x y : Table) : Type 0 where
  pub answer : told ≡ asked_means (asked_result t u key)
  pub newer : x ≡ t
  pub older : y ≡ u

-- the answer itself, with the word where the key stands
pub record Asks (t u : Table) (key : ℕ) (r : Asked) (x y : Table) : Type 0 where
  pub answer : r ≡ asked_result t u key
  pub newer : x ≡ t
  pub older : y ≡ u

-- r is `size` words of the table s, from word `start` on, and no copy: it begins at that word of the table's own memory, of eight bytes each
pub record PartAt (s : Bor (List ℕ)) (start size : ℕ) (r : Bor (List ℕ)) : Type 0 where
  pub words : r.now ≡ take size (drop start s.now)
  pub memory : r.ref_ptr ≡ (s.ref_ptr.0, start * 8 + s.ref_ptr.1)

-- what a lookup leads to: the words of the slot that it found, or none
unfoldable pub PartFound : Lookup → Bor (List ℕ) → Bor (List ℕ) → Type 0
PartFound (Stands x n) s r = PartAt s (key_word x) 3 r
PartFound (Absent n) s r = PartAt s 0 0 r

-- and the lookups of both
unfoldable pub PartOver : Lookup → Lookup → Bor (List ℕ) → Bor (List ℕ) → Bor (List ℕ) → Type 0
PartOver (Stands x n) behind t u r = PartAt t (key_word x) 3 r
PartOver (Absent n) behind t u r = PartFound behind u r

-- "The answer is the part of whichever table holds the key, three words of that table and no copy; an empty part with a refusal": r has the words of
-- the part that the rules name, and begins at its first word in that table's own memory
pub record Parted (t u : Bor (List ℕ)) (key : ℕ) (r : Bor (List ℕ)) (x y : Table) : Type 0 where
  pub words : r.now ≡ words_of (part_result t.now u.now key) t.now u.now
  pub memory : let p = part_result t.now u.now key in let s = named p.name t u in r.ref_ptr ≡ (s.ref_ptr.0, p.start * 8 + s.ref_ptr.1)
  pub newer : x ≡ t.now
  pub older : y ≡ u.now
