-- Document 01, "Where a key may stand": hashes, places, the probe order and the lookup.
-- Assumes nothing.
use Rattle.std.specs.Prelude.{ℕ, ◌+◌, ◌-◌, ◌%◌, Bool, cond, ◌&&◌, eqb}
use mathlib.Core.List.{List, [], ◌∷◌, flat_map}
use Rattle.std.proofs.Math.Option.{Option, none, some}
use Rattle.words.specs.Product.{hash_of}
use Rattle.rules.specs.Choice.{given, first_of}
use Rattle.rules.specs.Forms.{mixed, tag_of}
use Rattle.rules.specs.Words.{Table, size_of, levels_in_use, slots_in, place_at, key_in, token_of, tag_in, taken}
use Rattle.rules.specs.declared.State.{State}
use Rattle.rules.specs.declared.Header.{Header}
use Rattle.rules.specs.declared.Level.{Level}
use Rattle.rules.specs.declared.Hashes.{Hashes}
use Rattle.rules.specs.declared.Place.{Place}
use Rattle.rules.specs.declared.Slot.{Slot}
use Rattle.rules.specs.declared.Lookup.{Lookup}
use Rattle.rules.specs.declared.Lookup.TheVariants.{Stands, Absent}

-- "hash i of key K is the product K·Ai modulo 2^64, divided by 2^32, rounded down", of what is hashed of the key; beside them its tag
unfoldable pub hashes_of : Header → ℕ → Hashes
hashes_of h key = record { first = hash_of (mixed h key) h.mul1; second = hash_of (mixed h key) h.mul2; tag = tag_of h key }

-- "In a level of M buckets the first and second places are hash 1 modulo M and hash 2 modulo M"
unfoldable pub first_place : Hashes → Level → Place
first_place x l = place_at l (size_of l - 1 + x.first % size_of l)

unfoldable pub second_place : Hashes → Level → Place
second_place x l = place_at l (size_of l - 1 + x.second % size_of l)

-- "They may coincide; then they are one bucket." "first place, then second if different"
unfoldable pub same_place : Place → Place → Bool
same_place p q = eqb p.bucket q.bucket

unfoldable pub places_in : Hashes → Level → List Place
places_in x l = first_place x l ∷ cond (same_place (first_place x l) (second_place x l)) [] (second_place x l ∷ [])

-- "Probe order: top, bottom, interim; in each, first place, then second if different": the distinct probed buckets
unfoldable pub probes : State → Hashes → List Place
probes s x = flat_map (places_in x) (levels_in_use s)

unfoldable pub places_of : Header → ℕ → List Place
places_of h key = probes h.state (hashes_of h key)

-- document 02, request g): "A form 2 query reads only the slots whose tag fits." In form 1 both are 0, and every slot is read
unfoldable pub fits : Table → Header → ℕ → Slot → Bool
fits t h key x = eqb (tag_in h (token_of t x.bucket) x.slot) (tag_of h key)

-- a taken slot with the key, and the first such slot of a bucket, "slots 0 to 3"
unfoldable pub holds : Table → Header → ℕ → Slot → Bool
holds t h key x = taken t h x && (fits t h key x && eqb (key_in t x) key)

unfoldable pub hit_in : Table → Header → ℕ → Place → Option Slot
hit_in t h key p = first_of (λ (x : Slot). given (holds t h key x) x) (slots_in p)

-- "A query stops at the first taken slot with the key. Its probe count is the number of buckets looked at up to and
-- including that one, or all of them when the key is absent." Here n buckets have been looked at before.
abbrev pub stands_or : Option Slot → ℕ → Lookup → Lookup
stands_or (some x) n rest = Stands x n
stands_or none n rest = rest

abbrev pub seek : (Place → Option Slot) → ℕ → List Place → Lookup
seek hit n [] = Absent n
seek hit n (p ∷ ps) = stands_or (hit p) (n + 1) (seek hit (n + 1) ps)

unfoldable pub lookup : Table → Header → ℕ → Lookup
lookup t h key = seek (hit_in t h key) 0 (places_of h key)
