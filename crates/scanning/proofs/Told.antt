-- What a scan tells: whether each taken slot is in a place of its key, and where they all are, the copies that were found.
-- Assumes nothing.
use Prim.Native.Nat.{ℕ}
use mathlib.Core.Path.{◌≡◌, refl, sym, ap, ◌∙◌}
use mathlib.Core.Bool.{Bool, true, false, cond, ◌&&◌}
use mathlib.Core.List.Memᴰ.{head as here}
use mathlib.Core.List.Memᴰ.{tail as there}
use mathlib.Core.List.{List, [], ◌∷◌, map, flat_map, foldl, foldl-append, Memᴰ as In}
use mathlib.Core.Logic.Iff
use lib.ListN.{length}
use Rattle.rules.specs.Choice.{all}
use Rattle.rules.specs.Words.{Table, GoodHeader, header_of, key_in, taken, slots_in_use}
use Rattle.rules.specs.Places.{fits, lookup}
use Rattle.rules.specs.Soundness.{taken_slots, TakenSlot, in_place}
use Rattle.scanning.specs.Copying.{in_order, same_slot, copy_at, copies_of}
use Rattle.rules.specs.declared.Slot.{Slot}
use Rattle.rules.specs.declared.Lookup.{Lookup}
use Rattle.rules.specs.declared.Lookup.TheVariants.{Stands, Absent}
use Rattle.rules.proofs.Basics.Lists.{never}
use Rattle.rules.proofs.Basics.Tests.{tells_and}
use Rattle.rules.proofs.Basics.Loops.{fold_select}
use Rattle.rules.proofs.Places.PlacesInUse.{in_place_lem}
use Rattle.rules.proofs.Tables.Twins.{taken_in_lem}
use Rattle.rules.proofs.Places.Lookups.{Tidied, tag_fits, lookup-sees}
use Rattle.scanning.proofs.Copying.{copies, itself_in_place}
use Rattle.scanning.specs.declared.copies.Scan.{Scan}
use Rattle.scanning.specs.declared.copies.Scan.TheVariants.{Clear, Spoilt}
use Rattle.scanning.specs.Scans.{met_of, ended_at, item_met, slot_met, scan_of, scanned}

-- ---- pairs, one after the other

-- what is spoilt stays so
pairs-spoilt : (l : List (Slot × Slot)) → foldl met_of Spoilt l ≡ Spoilt
pairs-spoilt [] = refl
pairs-spoilt (u ∷ us) = pairs-spoilt us

pairs-scanned : (l : List (Slot × Slot)) → foldl met_of Clear l ≡ scanned l
pairs-scanned [] = refl
pairs-scanned (u ∷ []) = refl
pairs-scanned (u ∷ (v ∷ us)) = pairs-spoilt us

-- ---- items, one after the other

module _ (t : Table) (g : GoodHeader (length t) (header_of t)) where
  -- where its tag fits its key, a taken slot that is "in a place of its key": its copy, if it has one
  item_in_lem : (found : Scan) (x : Slot) → TakenSlot t x → fits t (header_of t) (key_in t x) x ≡ true → in_place t x ≡ true
      → item_met t (header_of t) found x ≡ foldl met_of found (copies_of t (header_of t) x)
  unfolding item_met copies_of in_place
  item_in_lem found x u tag e = rw e (go (lookup t (header_of t) (key_in t x)) refl)
    where
      one : (y : Slot) (b : Bool) → cond b found (met_of found (in_order x y)) ≡ foldl met_of found (cond b [] (in_order x y ∷ []))
      one y true = refl
      one y false = refl

      go : (o : Lookup) → lookup t (header_of t) (key_in t x) ≡ o → ended_at found x true o ≡ foldl met_of found (copy_at x o)
      go (Stands y n) q = one y (same_slot x y)
      go (Absent n) q = absurd (lookup-sees t x u tag (in_place_lem (header_of t).c t g.state x u.used e) n q)

  -- and one that is not
  item_out : (found : Scan) (x : Slot) → in_place t x ≡ false → item_met t (header_of t) found x ≡ Spoilt
  unfolding item_met in_place
  item_out found x e = rw e (go (lookup t (header_of t) (key_in t x)) refl)
    where
      one : (y : Slot) (n : ℕ) → lookup t (header_of t) (key_in t x) ≡ Stands y n → (b : Bool) → same_slot x y ≡ b → cond b found Spoilt ≡ Spoilt
      one y n q true s = never (itself_in_place t x y n q s) e
      one y n q false s = refl

      go : (o : Lookup) → lookup t (header_of t) (key_in t x) ≡ o → ended_at found x false o ≡ Spoilt
      go (Stands y n) q = one y n q (same_slot x y) refl
      go (Absent n) q = refl

  -- after one item the others
  after : {a b : Scan} (l : List Slot) → a ≡ b → foldl (item_met t (header_of t)) a l ≡ foldl (item_met t (header_of t)) b l
  after l e = ap (λ z. foldl (item_met t (header_of t)) z l) e

  items_spoilt : (l : List Slot) → foldl (item_met t (header_of t)) Spoilt l ≡ Spoilt
  unfolding item_met in_place
  items_spoilt [] = refl
  items_spoilt (x ∷ xs) = after xs (go (in_place t x) (lookup t (header_of t) (key_in t x))) ∙ items_spoilt xs
    where
      two : (p q : Bool) → cond p Spoilt (cond q Spoilt Spoilt) ≡ Spoilt
      two true q = refl
      two false true = refl
      two false false = refl

      go : (b : Bool) (o : Lookup) → ended_at Spoilt x b o ≡ Spoilt
      go b (Stands y n) = two (same_slot x y) b
      go b (Absent n) = refl

  items_placed : Tidied t → (found : Scan) (l : List Slot) → ((x : Slot) → In x l → TakenSlot t x) → all (map (in_place t) l) ≡ true
      → foldl (item_met t (header_of t)) found l ≡ foldl met_of found (flat_map (copies_of t (header_of t)) l)
  unfolding flat_map
  items_placed tidied found [] k e = refl
  items_placed tidied found (x ∷ xs) k e =
      let r = (tells_and (in_place t x) (all (map (in_place t) xs)) Iff.rfl Iff.rfl).0 e in
      let u = k x (here refl) in
      after xs (item_in_lem found x u (tag_fits t g tidied x u) r.0)
      ∙ items_placed tidied (foldl met_of found (copies_of t (header_of t) x)) xs (λ y i. k y (there i)) r.1
      ∙ sym (foldl-append met_of found (copies_of t (header_of t) x) (flat_map (copies_of t (header_of t)) xs))

  items_misplaced : (found : Scan) (l : List Slot) → all (map (in_place t) l) ≡ false → foldl (item_met t (header_of t)) found l ≡ Spoilt
  items_misplaced found [] e = never refl e
  items_misplaced found (x ∷ xs) e = go (in_place t x) refl e (λ z. items_misplaced z xs)
    where
      go : (b : Bool) → in_place t x ≡ b → (b && all (map (in_place t) xs)) ≡ false
          → ((z : Scan) → all (map (in_place t) xs) ≡ false → foldl (item_met t (header_of t)) z xs ≡ Spoilt)
          → foldl (item_met t (header_of t)) found (x ∷ xs) ≡ Spoilt
      go true q e k = k (item_met t (header_of t) found x) e
      go false q e k = after xs (item_out found x q) ∙ items_spoilt xs

  scan_items : scan_of t (header_of t) ≡ foldl (item_met t (header_of t)) Clear (taken_slots t)
  unfolding scan_of slot_met taken_slots
  scan_items = fold_select (taken t (header_of t)) (item_met t (header_of t)) Clear (slots_in_use (header_of t).state)

  -- "each taken slot in a place of its key"
  pub scan_misplaced : all (map (in_place t) (taken_slots t)) ≡ false → scan_of t (header_of t) ≡ Spoilt
  scan_misplaced e = scan_items ∙ items_misplaced Clear (taken_slots t) e

  pub scan_placed : Tidied t → all (map (in_place t) (taken_slots t)) ≡ true → scan_of t (header_of t) ≡ scanned (copies t)
  unfolding copies
  scan_placed tidied e = scan_items ∙ items_placed tidied Clear (taken_slots t) (taken_in_lem t) e ∙ pairs-scanned (copies t)
