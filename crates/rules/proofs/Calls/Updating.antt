-- update and delete on a sound table: 5 for the keys that the map does not have; else the map changed at the key, or minus the key.
-- Assumes nothing.
use Prim.Native.Nat.{ℕ}
use mathlib.Core.Path.{◌≡◌, refl}
use mathlib.Core.Option.{Option, none, some}
use Rattle.rules.specs.Words.{Table, header_of, place_of, key_in, token_of}
use Rattle.rules.specs.Places.{lookup}
use Rattle.rules.specs.Placing.{free_slot}
use Rattle.rules.specs.Stores.{clear_stores, update_with, update_stores}
use Rattle.rules.specs.Soundness.{TakenSlot, PlainMap}
use Rattle.rules.specs.Calls.{listed, update_in, delete_in, outcome}
use Rattle.rules.specs.Demands.{Given, Gives, map_with, ChangeBy, UpdateAnswers, DeleteAnswers}
use Rattle.rules.specs.declared.Slot.{Slot}
use Rattle.rules.specs.declared.Record.{Record}
use Rattle.rules.proofs.Words.FreeSlots.{free-slot}
use Rattle.rules.proofs.Words.SlotsInUse.{slot-number}
use Rattle.rules.proofs.Places.Lookups.{lookup-known, lookup_unknown}
use Rattle.rules.proofs.Calls.Passing.{passes, whole_of, gives}
use Rattle.rules.proofs.Carrying.Putting.{clear_sound, beside_sound, log_sound}

module _ (t : Table) (m : PlainMap) (n : ℕ) (given : Given t m n) (key : ℕ) where
  -- the slot with the key
  module _ (x : Slot) (item : TakenSlot t x) (same : key_in t x ≡ key) where
    update-given : (r : Record) (o : Option Slot) → free_slot t (header_of t) (place_of x) ≡ o
        → Gives t (listed (update_with t (header_of t) x o key r)) (map_with m key (some r)) (header_of t).state
    update-given r (some y) e =
        let f = free-slot t (header_of t) (place_of x) y e in
        gives t _ _ (rw same at (beside_sound t m (whole_of t m n given) x item r y f.place (slot-number (place_of x) y f.inside) f.free))
    update-given r none e = gives t _ _ (rw same at (log_sound t m (whole_of t m n given) x item r))

    delete-given : Gives t (listed (clear_stores (header_of t) (token_of t x.bucket) x)) (map_with m key none) (header_of t).state
    delete-given = gives t _ _ (rw same at (clear_sound t given.sound.orderly x item m given.map given.sound.alone))

  delete-answers : (o : Option Record) → m key ≡ o → ChangeBy t (map_with m key none) o (delete_in t (header_of t) (lookup t (header_of t) key))
  delete-answers (some v) e = let f = lookup-known t m given.sound given.map key v e in rw f.answer (delete-given f.slot f.item f.holding)
  delete-answers none e = rw (lookup_unknown t m given.sound given.map key e).1

  update-answers : (r : Record) (o : Option Record) → m key ≡ o
      → ChangeBy t (map_with m key (some r)) o (update_in t (header_of t) (lookup t (header_of t) key) key r)
  unfolding update_stores
  update-answers r (some v) e =
      let f = lookup-known t m given.sound given.map key v e in
      rw f.answer (update-given f.slot f.item f.holding r (free_slot t (header_of t) (place_of f.slot)) refl)
  update-answers r none e = rw (lookup_unknown t m given.sound given.map key e).1

pub update_answers : UpdateAnswers
unfolding outcome
update_answers t m n given key r = rw (passes t m n given) (update-answers t m n given key r (m key) refl)

pub delete_answers : DeleteAnswers
unfolding outcome
delete_answers t m n given key = rw (passes t m n given) (delete-answers t m n given key (m key) refl)
