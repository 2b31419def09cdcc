-- insert on a sound table: 4 for the map's keys, "no place" exactly where there is none, and else the map plus the key.
-- Assumes nothing.
use Prim.Native.Nat.{ℕ}
use mathlib.Core.Path.{◌≡◌, refl, ◌∙◌}
use mathlib.Core.Logic.{inl, inr}
use mathlib.Core.List.{Memᴰ as In}
use mathlib.Core.Option.{Option, none, some}
use Rattle.rules.specs.Words.{Table, header_of, InUse, place_of, key_in, token_of, hide}
use Rattle.rules.specs.Places.{lookup, places_of}
use Rattle.rules.specs.Placing.{placing}
use Rattle.rules.specs.Stores.{put_stores, move_stores, placing_stores, made}
use Rattle.rules.specs.Soundness.{PlainMap}
use Rattle.rules.specs.Calls.{insert_in, placed_by, outcome}
use Rattle.rules.specs.Demands.{Given, map_with, InsertBy, InsertAnswers}
use Rattle.rules.specs.declared.Slot.{Slot}
use Rattle.rules.specs.declared.Record.{Record}
use Rattle.rules.specs.declared.Placing.{Placing}
use Rattle.rules.specs.declared.Placing.TheVariants.{Free, Move, Nowhere}
use Rattle.rules.proofs.Words.Made.{made_append}
use Rattle.rules.proofs.Places.PlacesInUse.{among_used}
use Rattle.rules.proofs.Places.Placings.{FreeFor, MoveFor, placing-free, placing_move, some-place, no_place_lem}
use Rattle.rules.proofs.Places.Lookups.{lookup-known, lookup_unknown}
use Rattle.rules.proofs.Calls.Passing.{passes, whole_of, gives}
use Rattle.rules.proofs.Carrying.Putting.{SoundMap, Becomes, put-sound}
use Rattle.rules.proofs.Carrying.ItemMoved.{AfterMove, move_whole}

module _ (t : Table) (m : PlainMap) (whole : SoundMap t m) where
  -- a free slot for a key that the map does not have
  free_becomes : (key : ℕ) (r : Record) → m key ≡ none → (x : Slot) → FreeFor t (header_of t) key x
      → Becomes t (made t (placing_stores t (header_of t) (Free x) key r)) (map_with m key (some r))
  unfolding placing_stores
  free_becomes key r absent x f = put-sound t m whole x (among_used (header_of t) key x f.slot f.among) f.free key r f.among absent

  -- a move, and its old slot for the key
  freed_slot : (u : Table) (from to : Slot) → AfterMove t u m from to → InUse (header_of t).state from → (key : ℕ) (r : Record) → m key ≡ none
      → In (place_of from) (places_of (header_of t) key)
      → Becomes t (made u (put_stores (header_of t) (hide (header_of t) (token_of t from.bucket) from.slot) from key r)) (map_with m key (some r))
  freed_slot u from to v used key r absent place =
      let b = put-sound u m v.whole from (rw v.header used) v.free key r (rw v.header place) absent in
      let e : made u (put_stores (header_of u) (token_of u from.bucket) from key r) ≡ made u
      (put_stores (header_of t) (hide (header_of t) (token_of t from.bucket) from.slot) from key r) = rw (v.header, v.token) in
      record { whole = rw e at b.whole; header = rw (← e) (b.header ∙ v.header) }

  move_becomes : (key : ℕ) (r : Record) → m key ≡ none → (from to : Slot) → MoveFor t (header_of t) key from to
      → Becomes t (made t (placing_stores t (header_of t) (Move from to) key r)) (map_with m key (some r))
  unfolding placing_stores
  move_becomes key r absent from to f =
      let h = header_of t in
      let g = f.goal in
      let used = among_used (header_of t) key from f.slot f.among in
      let v = move_whole t m whole from to (record { used = used; shown = f.item }) (among_used (header_of t) (key_in t from) to g.slot g.among)
      g.free g.among f.apart in
      rw (made_append t (move_stores t h from to) (put_stores h (hide h (token_of t from.bucket) from.slot) from key r))
      (freed_slot (made t (move_stores t h from to)) from to v used key r absent f.among)

module _ (t : Table) (m : PlainMap) (n : ℕ) (given : Given t m n) (key : ℕ) (r : Record) where
  by_placing : m key ≡ none → (p : Placing) → placing t (header_of t) key ≡ p → InsertBy t m key r none (placed_by p (placing_stores t (header_of t) p key r))
  by_placing absent (Free x) e =
      inr (
        some-place t (header_of t) key (Free x) refl e,
        gives t _ _ (free_becomes t m (whole_of t m n given) key r absent x (placing-free t (header_of t) key x e)),
      )
  by_placing absent (Move from to) e =
      inr (
        some-place t (header_of t) key (Move from to) refl e,
        gives t _ _ (move_becomes t m (whole_of t m n given) key r absent from to (placing_move t (header_of t) key from to e)),
      )
  by_placing absent Nowhere e = inl ((no_place_lem t (header_of t) key).0 e, refl)

  answers : (o : Option Record) → m key ≡ o → InsertBy t m key r o (insert_in t (header_of t) (lookup t (header_of t) key) key r)
  answers (some v) e = rw (lookup-known t m given.sound given.map key v e).answer
  answers none e = rw (lookup_unknown t m given.sound given.map key e).1 (by_placing e (placing t (header_of t) key) refl)

pub insert_answers : InsertAnswers
unfolding outcome
insert_answers t m n given key r = rw (passes t m n given) (answers t m n given key r (m key) refl)
