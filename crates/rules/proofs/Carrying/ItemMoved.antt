-- A move of one slot to another, made whole: "the item's three words and token at its new slot; old token cleared". The table is
-- sound and has the same map; the old slot is free; every other item stands where it stood.
-- Assumes nothing.
use Prim.Native.Nat.{ℕ}
use mathlib.Core.Path.{◌≡◌, refl, ◌∙◌}
use mathlib.Core.Bool.{false}
use mathlib.Core.List.{Memᴰ as In}
use mathlib.Core.Logic.{◌⊎◌, inl, inr, ⊎_elim}
use Rattle.rules.specs.Words.{Table, GoodState, header_of, InUse, place_of, key_in, record_in, token_of, hide, taken}
use Rattle.rules.specs.Places.{places_of}
use Rattle.rules.specs.Stores.{put_stores, clear_stores, move_stores, made}
use Rattle.rules.specs.Soundness.{TakenSlot, PlainMap}
use Rattle.rules.specs.declared.Slot.{Slot}
use Rattle.rules.proofs.Words.Made.{made_append}
use Rattle.rules.proofs.Carrying.Carried.{carried_stays, carried_stood}
use Rattle.rules.proofs.Carrying.Moving.{Nothing, Only}
use Rattle.rules.proofs.Carrying.Putting.{SoundMap, TwinMap, put_writes, put-stays, put_stood, put_twin}
use Rattle.rules.proofs.Carrying.Putting.{clear_writes, clear_bit, clear_carries, clear_twin}

pub record AfterMove (t u : Table) (m : PlainMap) (from to : Slot) : Type 0 where
  pub whole : SoundMap u m
  pub header : header_of u ≡ header_of t
  pub free : taken u (header_of u) from ≡ false
  pub token : token_of u from.bucket ≡ hide (header_of t) (token_of t from.bucket) from.slot
  pub tokens : (j : ℕ) → (j ≡ from.bucket → ⊥) → (j ≡ to.bucket → ⊥) → token_of u j ≡ token_of t j
  pub arrived : TakenSlot u to × (key_in u to ≡ key_in t from) × (record_in u to ≡ record_in t from)
  pub stays : (y : Slot) → TakenSlot t y → (y ≡ from → ⊥) → TakenSlot u y × (key_in u y ≡ key_in t y) × (record_in u y ≡ record_in t y)
  pub stood : (y : Slot) → TakenSlot u y → (y ≡ to) ⊎ ((y ≡ from → ⊥) × TakenSlot t y)

module _ (t : Table) (m : PlainMap) (whole : SoundMap t m) (from to : Slot) (item : TakenSlot t from) (here : InUse (header_of t).state to)
    (free : taken t (header_of t) to ≡ false)
    (among : In (place_of to) (places_of (header_of t) (key_in t from))) (apart : from.bucket ≡ to.bucket → ⊥) where
  -- the copy at the new slot, and then the old one cleared
  copied : Table
  copied = made t (put_stores (header_of t) (token_of t to.bucket) to (key_in t from) (record_in t from))

  twin : TwinMap copied m from to
  unfolding copied
  twin = put_twin t m whole to here free (key_in t from) (record_in t from) among from item refl refl

  cleared : Table
  cleared = made copied (clear_stores (header_of copied) (token_of copied from.bucket) from)

  moved_two : made t (move_stores t (header_of t) from to) ≡ cleared
  unfolding move_stores copied cleared
  moved_two =
      let near = (put_writes t m whole to here free (key_in t from) (record_in t from) among).near in
      made_append t (put_stores (header_of t) (token_of t to.bucket) to (key_in t from) (record_in t from))
      (clear_stores (header_of t) (token_of t from.bucket) from)
      ∙ rw (near.header, near.tokens from.bucket apart)

  good_copied : GoodState (header_of t).c (header_of copied).state
  unfolding copied
  good_copied = rw (put_writes t m whole to here free (key_in t from) (record_in t from) among).near.header whole.sound.orderly.header.state

  move_made : AfterMove t cleared m from to
  unfolding copied cleared taken
  move_made =
      let h = header_of t in
      let key = key_in t from in
      let r = record_in t from in
      let put = put_writes t m whole to here free key r among in
      let hidden = clear_writes copied twin.orderly from twin.first in
      let bit = clear_bit copied twin.orderly from twin.first in
      let loss = clear_carries copied twin.orderly from twin.first in
      let good_cleared : GoodState h.c (header_of cleared).state = rw hidden.near.header good_copied in
      let keep = carried_stays copied cleared (Only from) Nothing loss h.c good_cleared hidden.near.header in
      let first = put-stays t m whole to here free key r among in
      let stood-before = put_stood t m whole to here free key r among in
      let stood-after = carried_stood copied cleared (Only from) Nothing loss h.c good_cleared hidden.near.header in
      record {
        whole = (clear_twin copied twin.orderly from twin.first m twin.map to twin).whole;
        header = hidden.near.header ∙ put.near.header;
        free = rw (hidden.near.header, hidden.token) bit.here;
        token = hidden.token ∙ rw (put.near.header, put.near.tokens from.bucket apart);
        tokens = λ j d e. hidden.near.tokens j d ∙ put.near.tokens j e;
        arrived = let k = keep to twin.second twin.apart in (k.0, k.1 ∙ put.key, k.2 ∙ put.value);
        stays = λ y a n.
            let f = first y a in
            let k = keep y f.0 n in
            (k.0, k.1 ∙ f.1, k.2 ∙ f.2);
        stood = λ y a.
            ⊎_elim (λ (n : Nothing y). absurd n)
            (λ (b : (y ≡ from → ⊥) × TakenSlot copied y).
            ⊎_elim (λ (e : y ≡ to). inl e) (λ (c : TakenSlot t y). inr (b.0, c)) (stood-before y b.1))
            (stood-after y a);
      }

  pub move_whole : AfterMove t (made t (move_stores t (header_of t) from to)) m from to
  move_whole = rw moved_two move_made
