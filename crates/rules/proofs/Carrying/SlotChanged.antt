-- Where the words of one slot and its bucket's token word are written: which items are carried over, which is gone and which is new, by
-- the bits of the token word; and what stays orderly.
-- Assumes nothing.
use Prim.Native.Nat.{ℕ}
use mathlib.Core.Path.{◌≡◌, refl, sym, ap, ◌∙◌}
use mathlib.Core.Bool.{true, false}
use mathlib.Core.List.{Memᴰ as In}
use mathlib.Core.Logic.{◌⊎◌, inl, inr}
use native.Mathlib.Decide.{ℕ_discrete}
use Rattle.rules.specs.Words.{Table, GoodState, header_of, InUse, place_of, token_of, keys_of, is_taken, taken}
use Rattle.rules.specs.Places.{places_of}
use Rattle.rules.specs.Soundness.{TakenSlot, OrderlyTable}
use Rattle.rules.specs.declared.Slot.{Slot}
use Rattle.rules.specs.declared.Record.{Record}
use Rattle.rules.proofs.Basics.Lists.{never}
use Rattle.rules.proofs.Words.Tokens.{Bit, Follows}
use Rattle.rules.proofs.Places.PlacesInUse.{slot_by_bucket}
use Rattle.rules.proofs.Carrying.Carried.{Carried, PlacedAt, carried_placed}
use Rattle.rules.proofs.Carrying.Touched.{turned, touched_orderly}
use Rattle.rules.proofs.Carrying.Moving.{Nothing, Only}
use Rattle.rules.proofs.Carrying.StoreKinds.{SlotWritten}

module _ (f : ℕ) (t u : Table) (x : Slot) (v key : ℕ) (r : Record) (o : OrderlyTable f t) (here : InUse (header_of t).state x)
    (written : SlotWritten t u x v key r) where
  good : GoodState (header_of t).c (header_of t).state
  good = o.header.state

  pub good-after : GoodState (header_of t).c (header_of u).state
  good-after = rw written.near.header good

  -- x is taken in u
  pub shown-after : is_taken (header_of t) v x.slot ≡ true → TakenSlot u x
  unfolding taken
  shown-after e = record { used = rw written.near.header here; shown = rw (written.near.header, written.token) e }

  -- ---- which items are carried

  elsewhere : (a : Slot) → a.bucket ≡ x.bucket → (y : Slot) → (y.bucket ≡ x.bucket → ⊥) → Only a y → ⊥
  elsewhere a b y n e = n (ap (λ (s : Slot). s.bucket) e ∙ b)

  pub put_carried : Bit (header_of t) (token_of t x.bucket) v x.slot true → taken t (header_of t) x ≡ false → Carried t u Nothing (Only x)
  unfolding taken
  put_carried bit free =
      turned (header_of t).c t u x written.near good here Nothing (Only x) (λ y n g. g)
      (λ y used b n. inl (rw written.token (bit.other y.slot used.slot n), λ g. g)) (inr (λ q. never q free, λ q. refl))

  pub clear_carried : Bit (header_of t) (token_of t x.bucket) v x.slot false → Carried t u (Only x) Nothing
  unfolding taken
  clear_carried bit =
      turned (header_of t).c t u x written.near good here (Only x) Nothing (elsewhere x refl)
      (λ y used b n. inl (rw written.token (bit.other y.slot used.slot n), λ g. n (ap (λ (s : Slot). s.slot) g)))
      (inr (λ q. refl, λ q. never (rw (written.near.header, written.token) at q) bit.here))

  pub rewrite_carried : v ≡ token_of t x.bucket → Carried t u (Only x) (Only x)
  rewrite_carried e =
      turned (header_of t).c t u x written.near good here (Only x) (Only x) (elsewhere x refl)
      (λ y used b n. inl (rw (written.token, e), λ g. n (ap (λ (s : Slot). s.slot) g))) (inr (λ q. refl, λ q. refl))

  -- one token store sets x and clears a, a slot of the same bucket
  pub beside_carried : (a : Slot) → InUse (header_of t).state a → a.bucket ≡ x.bucket → (w : ℕ)
      → Bit (header_of t) (token_of t x.bucket) w a.slot false → Bit (header_of t) w v x.slot true
      → taken t (header_of t) x ≡ false → (a.slot ≡ x.slot → ⊥) → Carried t u (Only a) (Only x)
  unfolding taken
  beside_carried a used b w cleared set free apart =
      turned (header_of t).c t u x written.near good here (Only a) (Only x) (elsewhere a b)
      (λ y in_use same n. go y in_use same n (ℕ_discrete y.slot a.slot)) (inr (λ q. never q free, λ q. refl))
    where
      go : (y : Slot) → InUse (header_of t).state y → y.bucket ≡ x.bucket → (y.slot ≡ x.slot → ⊥) → Dec (y.slot ≡ a.slot)
          → ((is_taken (header_of t) (token_of u x.bucket) y.slot ≡ is_taken (header_of t) (token_of t x.bucket) y.slot) × (Only a y → ⊥))
          ⊎ (Only a y × (is_taken (header_of t) (token_of u x.bucket) y.slot ≡ false))
      go y in_use same n (yes e) =
          inr (
            slot_by_bucket (header_of t).state (header_of t).c good y a in_use used (same ∙ sym b) e,
            rw written.token (set.other y.slot in_use.slot n ∙ rw e cleared.here),
          )
      go y in_use same n (no d) =
          inl (rw written.token (set.other y.slot in_use.slot n ∙ cleared.other y.slot in_use.slot d), λ g. d (ap (λ (s : Slot). s.slot) g))

  -- ---- what stays orderly

  pub written-orderly : Follows (header_of t) (token_of t x.bucket) v (keys_of t x.bucket) (keys_of u x.bucket) x.slot key
      → (Gone New : Slot → Type 0) → Carried t u Gone New → ((z : Slot) → TakenSlot u z → New z → PlacedAt u z) → OrderlyTable f u
  written-orderly follows Gone New carried new =
      touched_orderly (header_of t).c t u x written.near good here f f o (λ m k. rw written.token (follows m (rw written.key at k)))
      (written.flag ∙ o.flag)
      (carried_placed t u Gone New carried written.near.header o.placed new)

  -- with the new item in a place of its key
  pub placed-here : In (place_of x) (places_of (header_of t) key) → (z : Slot) → TakenSlot u z → Only x z → PlacedAt u z
  unfolding place_of
  placed-here among z a e = (place_of x, rw (e, written.near.header, written.key) among, sym (ap (λ (s : Slot). s.bucket) e))
