-- Every store that a call lists lies in the table, and what it writes to a token word is what may be stored there. One law for each kind of store: to a
-- word of a slot, to a token word, to a word of the header; a call's list is put together from them.
-- Assumes nothing.
use Prim.Native.Nat.{ℕ, ◌+◌, ◌*◌, ◌≤◌, ◌<◌}
use mathlib.Core.Path.{◌≡◌, refl, ap}
use mathlib.Core.List.{List, [], ◌∷◌, Memᴰ as In}
use mathlib.Core.Logic.{inl, inr}
use mathlib.Core.Option.{Option, none, some}
use native.Mathlib.Omega.{arith}
use lib.ListN.{length}
use Rattle.rules.specs.Words.{Table, word, header_of, GoodHeader, place_of, InUse, key_word, key_in, record_in, token_word, token_of, hide}
use Rattle.rules.specs.Places.{places_of}
use Rattle.rules.specs.Placing.{free_slot, placing}
use Rattle.rules.specs.Stores.{Store}
use Rattle.rules.specs.Soundness.{DoubledTable, FlaggedTable, finding}
use Rattle.rules.specs.Calls.{listed, Call, query, insert, update, delete, begin, shrink, back, step_from, end, recover, outcome}
use Rattle.rules.specs.Demands.{bucket_start, slot_start, record_stores, PlacingWritten, UpdateWritten, RecoveryWritten, Written, StoresInside}
use Rattle.rules.specs.Demands.{TokenStoresLow}
use Rattle.rules.specs.declared.Header.{Header}
use Rattle.rules.specs.declared.Place.{Place}
use Rattle.rules.specs.declared.Slot.{Slot}
use Rattle.rules.specs.declared.Record.{Record}
use Rattle.rules.specs.declared.Placing.{Placing}
use Rattle.rules.specs.declared.Placing.TheVariants.{Free, Move, Nowhere}
use Rattle.rules.specs.declared.Finding.{Finding}
use Rattle.rules.specs.declared.Finding.TheVariants.{Sound, Doubled, Flagged, Neither}
use Rattle.rules.proofs.Words.Addresses.{Of, off_token}
use Rattle.rules.proofs.Words.Made.{Each, each_in, each_append}
use Rattle.rules.proofs.Calls.Checked.{accepted-header}
use Rattle.rules.proofs.Words.Headers.{header-fits}
use Rattle.rules.proofs.Words.Forms.{form1_untagged}
use Rattle.rules.proofs.Words.Tokens.{Kept, Stored, show_stored, hide_stored}
use Rattle.rules.proofs.Words.FreeSlots.{free-slot}
use Rattle.rules.proofs.Places.PlacesInUse.{among_used, place_of_slot, slot_of_place, slot-within}
use Rattle.rules.proofs.Places.Placings.{placing-free, placing_move}
use Rattle.rules.proofs.Tables.Findings.{finding-means}
use Rattle.rules.proofs.Places.Lookups.{holder_taken}
use Rattle.rules.proofs.Calls.StoreLists.{stores_as_written}

-- ---- kinds of stores, in a table with that header

module _ (t : Table) (h : Header) where
  -- it lies in the table; where it is to a token word, it is what a store may write there
  record Fits (x : Store) : Type 0 where
    inside : x.0 < length t
    token : (j : ℕ) → x.0 ≡ bucket_start j → Stored h (token_of t j) x.1

  abbrev AllFit : List Store → Type 0
  AllFit = Each Fits

  header_store : (w v : ℕ) → w < 9 → 9 ≤ length t → Fits (w, v)
  unfolding token_word
  header_store w v l long = record { inside = omega arith; token = λ j e. absurd (omega arith) }

  -- a slot of a bucket in the table
  module _ (x : Slot) (within : (9 + 13 * x.bucket + 13 ≤ length t) × (x.slot < 4)) where
    slot_store : (w v : ℕ) → Of x w → Fits (w, v)
    unfolding key_word token_word
    slot_store w v l = record { inside = omega arith; token = λ j e. absurd (off_token x j w within.1 l e) }

    token_store : (v : ℕ) → Stored h (token_of t x.bucket) v → Fits (token_word x.bucket, v)
    unfolding token_word
    token_store v l = record { inside = omega arith; token = λ j e. let same : x.bucket ≡ j = omega arith in rw (← same) l }

    -- where an earlier store of the list left w of the token word
    module _ (w : ℕ) (before : Kept h (token_of t x.bucket) w) where
      put_each : (key : ℕ) (r : Record) → AllFit (record_stores h w x key r)
      unfolding key_word token_word
      put_each key r = (
        slot_store _ key (omega arith),
        (
          slot_store _ r.function (omega arith),
          (slot_store _ r.place (omega arith), (token_store _ (show_stored h _ w before x.slot within.1 key), tt)),
        ),
      )

    clear_each : AllFit ((bucket_start x.bucket, hide h (token_of t x.bucket) x.slot) ∷ [])
    unfolding token_word
    clear_each = (token_store _ (hide_stored h _ (token_of t x.bucket) (λ e. (refl, refl)) x.slot within.1), tt)

    redo_each : (function place : ℕ) → 9 ≤ length t → AllFit ((slot_start x + 1, function) ∷ (slot_start x + 2, place) ∷ (5, 0) ∷ [])
    unfolding key_word token_word
    redo_each function place long = (slot_store _ function (omega arith), (slot_store _ place (omega arith), (header_store 5 0 (omega arith) long, tt)))

-- ---- what a call lists

module _ (t : Table) (good : GoodHeader (length t) (header_of t)) where
  within : (x : Slot) → InUse (header_of t).state x → (9 + 13 * x.bucket + 13 ≤ length t) × (x.slot < 4)
  within = slot-within (length t) (header_of t) good

  header : 9 ≤ length t
  header = header-fits (length t) (header_of t) good

  to_header : (w v : ℕ) → w < 9 → Fits t (header_of t) (w, v)
  to_header w v l = header_store t (header_of t) w v l header

  -- a slot of a place of a key
  slot_among : (key : ℕ) (x : Slot) → In (place_of x) (places_of (header_of t) key) → x.slot < 4 → (9 + 13 * x.bucket + 13 ≤ length t) × (x.slot < 4)
  slot_among key x i l = within x (among_used (header_of t) key x l i)

  -- the slot's own bucket, once the slot is hidden
  hidden : (x : Slot) → x.slot < 4 → Kept (header_of t) (token_of t x.bucket) (hide (header_of t) (token_of t x.bucket) x.slot)
  hidden x l = (hide_stored (header_of t) _ (token_of t x.bucket) (λ e. (refl, refl)) x.slot l).kept

  placing_each : (key : ℕ) (r : Record) (xs : List Store) (p : Placing) → placing t (header_of t) key ≡ p → PlacingWritten t (header_of t) key r p xs
      → AllFit t (header_of t) xs
  placing_each key r xs (Free x) q e =
      let f = placing-free t (header_of t) key x q in
      rw e (put_each t (header_of t) x (slot_among key x f.among f.slot) (token_of t x.bucket) (λ e. (refl, refl)) key r)
  placing_each key r xs (Move from to) q e =
      let h = header_of t in
      let w = hide h (token_of t from.bucket) from.slot in
      let f = placing_move t h key from to q in
      let old = slot_among key from f.among f.slot in
      let new = slot_among (key_in t from) to f.goal.among f.goal.slot in
      let item = record_stores h (token_of t to.bucket) to (key_in t from) (record_in t from) in
      rw e (each_append (Fits t (header_of t)) item ((bucket_start from.bucket, w) ∷ record_stores h w from key r)
      (put_each t h to new (token_of t to.bucket) (λ e. (refl, refl)) (key_in t from) (record_in t from))
      ((clear_each t h from old).0, put_each t h from old w (hidden from old.1) key r))
  placing_each key r xs Nowhere q e = absurd e

  -- a slot where an item stands, and the lowest free slot of its bucket
  update_each : (x : Slot) → InUse (header_of t).state x → (key : ℕ) (r : Record) (xs : List Store) (o : Option Slot)
      → free_slot t (header_of t) (place_of x) ≡ o → UpdateWritten t (header_of t) x key r o xs → AllFit t (header_of t) xs
  unfolding place_of
  update_each x u key r xs (some y) q e =
      let free = slot_of_place (header_of t).state (place_of x) y (place_of_slot (header_of t).state x u) (free-slot t (header_of t) (place_of x) y q).inside in
      let bucket : y.bucket ≡ x.bucket = ap (λ (p : Place). p.bucket) (free-slot t (header_of t) (place_of x) y q).place in
      rw e (put_each t (header_of t) y (within y free) (hide (header_of t) (token_of t x.bucket) x.slot) (rw bucket (hidden x u.slot)) key r)
  update_each x u key r xs none q e =
      rw e (
        to_header 6 _ (omega arith),
        (
          to_header 7 _ (omega arith),
          (to_header 8 _ (omega arith), (to_header 5 1 (omega arith), redo_each t (header_of t) x (within x u) r.function r.place header)),
        ),
      )

  recovery_each : (xs : List Store) (f : Finding) → finding t ≡ f → RecoveryWritten t (header_of t) f xs → AllFit t (header_of t) xs
  recovery_each xs Sound q e = rw e tt
  recovery_each xs (Doubled kept later) q e =
      let d : DoubledTable t kept later = rw q at (finding-means t) in
      rw e (clear_each t (header_of t) later (within later d.later.used))
  recovery_each xs (Flagged x) q e =
      let f : FlaggedTable t x = rw q at (finding-means t) in
      rw e (redo_each t (header_of t) x (within x f.named.used) (word t 7) (word t 8) header)
  recovery_each xs Neither q e = absurd e

  written_each : (n : ℕ) (q : Call) (xs : List Store) → outcome t n q ≡ listed xs → Written t (header_of t) q xs → AllFit t (header_of t) xs
  written_each n (query key) xs o e = rw e tt
  written_each n (insert key r) xs o e = placing_each key r xs (placing t (header_of t) key) refl e
  written_each n (update key r) xs o (x, s, e) = update_each x (holder_taken t key x s).0.used key r xs (free_slot t (header_of t) (place_of x)) refl e
  written_each n (delete key) xs o (x, s, e) = rw e (clear_each t (header_of t) x (within x (holder_taken t key x s).0.used))
  written_each n begin xs o e = rw e (to_header 4 _ (omega arith), tt)
  written_each n shrink xs o e = rw e (to_header 4 _ (omega arith), tt)
  written_each n back xs o (inl e) = rw e.1 (to_header 4 _ (omega arith), tt)
  written_each n back xs o (inr e) = rw e.1 (to_header 4 _ (omega arith), tt)
  written_each n (step_from b) xs o (x, s, (ys, w, e)) =
      let cleared = clear_each t (header_of t) x (within x s.item.item.item.used) in
      rw e (each_append (Fits t (header_of t)) ys _ (placing_each (key_in t x) (record_in t x) ys (placing t (header_of t) (key_in t x)) refl w) cleared)
  written_each n end xs o e = rw e (to_header 4 _ (omega arith), tt)
  written_each n recover xs o e = recovery_each xs (finding t) refl e

listed-fits : (t : Table) (n : ℕ) (q : Call) (xs : List Store) → outcome t n q ≡ listed xs → (x : Store) → In x xs → Fits t (header_of t) x
listed-fits t n q xs e = each_in (Fits t (header_of t)) xs (written_each t (accepted-header t n q xs e) n q xs e (stores_as_written t n q xs e))

pub token_stored : (t : Table) (n : ℕ) (q : Call) (xs : List Store) → outcome t n q ≡ listed xs → (x : Store) → In x xs → (j : ℕ) → x.0 ≡ bucket_start j
    → Stored (header_of t) (token_of t j) x.1
token_stored t n q xs e x i = (listed-fits t n q xs e x i).token

pub stores_inside : StoresInside
stores_inside t n q xs e x i = (listed-fits t n q xs e x i).inside

pub token_stores_low : TokenStoresLow
unfolding header_of
token_stores_low t n q xs e form x i j at = (token_stored t n q xs e x i j at).low (form1_untagged (header_of t) form)
