-- What insert, update and delete do behind the first tests.
-- Assumes nothing.
use Prim.Native.Nat.{ℕ, ◌+◌, ◌≤◌}
use mathlib.Core.Path.{◌≡◌, refl, ap}
use mathlib.Core.Bool.{true, false}
use mathlib.Core.List.{List, [], ◌∷◌}
use native.Mathlib.Omega.{arith}
use denote.Enum.Declared.{tag_of}
use types.Run.{OneOf}
use Rattle.rules.specs.Words.{Table, place_of, token_of, hide}
use Rattle.rules.specs.Forms.{tag_of as key_tag}
use Rattle.rules.specs.Places.{hashes_of, lookup}
use Rattle.rules.specs.declared.Hashes.{Hashes}
use Rattle.rules.specs.Placing.{free_slot, placing}
use Rattle.rules.specs.Answers.{LookupTells}
use Rattle.rules.specs.Stores.{put_stores, clear_stores, placing_stores, log_stores, redo_stores, update_stores}
use Rattle.rules.specs.Calls.{refused, listed, insert_in, update_in, delete_in}
use Rattle.rules.specs.declared.Header.{Header}
use Rattle.rules.specs.declared.Slot.{Slot}
use Rattle.rules.specs.declared.Record.{Record}
use Rattle.rules.specs.declared.Lookup.{Lookup}
use Rattle.rules.specs.declared.Lookup.TheVariants.{Stands, Absent}
use Rattle.rules.specs.declared.Placing.{Placing}
use Rattle.rules.specs.declared.Refusal.TheVariants.{KeyPresent, KeyAbsent, NoPlace}
use Rattle.rules.proofs.Basics.Lists.{never}
use Rattle.rules.proofs.Calls.Meanings.{lookup-told_by}
use Rattle.rules.specs.contracts.Placing.{the_type as placing-type}
use Rattle.std.specs.Prelude.{Option as Answer, Some, None}
use Rattle.reading.specs.Within.{slot_found}
use Rattle.listing.specs.Listing.{listed_at, Run, Takes}
use Rattle.changing.specs.Founds.{has_found}
use Rattle.placing.proofs.Placings.{not_free, is_free}
use Rattle.listing.proofs.Runs.{then}
use Rattle.listing.proofs.Placings.{placed_nowhere, placed-listed}

-- ---- the key that was looked up

module _ (t : Table) (h : Header) (key : ℕ) {f : Lookup} (l : LookupTells f (lookup t h key)) where
  pub delete-absent : {n : ℕ} → f ≡ Absent n → refused KeyAbsent ≡ delete_in t h (lookup t h key)
  delete-absent e = rw (← lookup-told_by l, e)

  pub delete-listed : {x : Slot} {n w : ℕ} → f ≡ Stands x n → w ≡ token_of t x.bucket → listed (clear_stores h w x) ≡ delete_in t h (lookup t h key)
  delete-listed e q = rw (← lookup-told_by l, e, q)

  pub update-absent : {n : ℕ} (r : Record) → f ≡ Absent n → refused KeyAbsent ≡ update_in t h (lookup t h key) key r
  update-absent r e = rw (← lookup-told_by l, e)

  pub update-listed : {x : Slot} {n : ℕ} (r : Record) → f ≡ Stands x n → listed (update_stores t h x key r) ≡ update_in t h (lookup t h key) key r
  update-listed r e = rw (← lookup-told_by l, e)

-- by whether the lookup has found the key
module _ (t : Table) (h : Header) (o : Lookup) (key : ℕ) (r : Record) where
  pub insert-found : has_found o ≡ true → refused KeyPresent ≡ insert_in t h o key r
  insert-found = go o
    where
      go : (o : Lookup) → has_found o ≡ true → refused KeyPresent ≡ insert_in t h o key r
      go (Stands x n) q = refl
      go (Absent n) q = never q refl

  pub insert_not_found : has_found o ≡ false → insert_in t h (Absent 0) key r ≡ insert_in t h o key r
  insert_not_found = go o
    where
      go : (o : Lookup) → has_found o ≡ false → insert_in t h (Absent 0) key r ≡ insert_in t h o key r
      go (Absent n) q = refl
      go (Stands x n) q = never refl q

-- the tag beside the hashes
pub hashed_tag : (h : Header) (key : ℕ) {x : Hashes} → x ≡ hashes_of h key → x.tag ≡ key_tag h key
unfolding hashes_of
hashed_tag h key e = ap (λ (z : Hashes). z.tag) e

-- ---- an insert's stores

-- an absent key takes the slot that its placing p gives it
module _ (t : Table) (h : Header) (key : ℕ) (r : Record) {p : Placing} (q : p ≡ placing t h key) where
  pub take_nowhere : OneOf (2 ∷ []) (tag_of placing-type p) → refused NoPlace ≡ insert_in t h (Absent 0) key r
  take_nowhere k = rw (← q) (placed_nowhere p (placing_stores t h p key r) k)

  pub take_listed : (x : Slot) → Takes t p x → listed (placing_stores t h p key r) ≡ insert_in t h (Absent 0) key r
  take_listed x k = rw (← q) (placed-listed t p x (placing_stores t h p key r) k)

-- ---- an update's stores

module _ (t : Table) (h : Header) (l : List ℕ) (x : Slot) (key : ℕ) (r : Record) (p : Answer Slot)
    (o : p ≡ slot_found (free_slot t h (place_of x))) where
  pub renew_free : {y : Slot} {w v n : ℕ} {m : List ℕ} → p ≡ Some y → w ≡ token_of t x.bucket → v ≡ hide h w x.slot
      → (n ≡ 0 + 4) × (m ≡ listed_at l 0 (put_stores h v y key r))
      → Run n l m (update_stores t h x key r) × (n ≤ 7)
  unfolding update_stores put_stores
  renew_free {y} e f g s = rw (is_free (free_slot t h (place_of x)) o e, ← f, ← g) (s, omega (arith, s.0))

  pub renew_full : {n₁ n₂ : ℕ} {l₁ l₂ : List ℕ} → p ≡ None
      → (n₁ ≡ 0 + 4) × (l₁ ≡ listed_at l 0 (log_stores x r)) → (n₂ ≡ n₁ + 3) × (l₂ ≡ listed_at l₁ n₁ (redo_stores x r))
      → Run n₂ l l₂ (update_stores t h x key r) × (n₂ ≤ 7)
  unfolding update_stores redo_stores
  renew_full k s₁ s₂ =
      rw (not_free (free_slot t h (place_of x)) o k)
      ((omega (arith, s₁.0, s₂.0), then l 0 (log_stores x r) (redo_stores x r) s₁.1 s₁.0 s₂.1), omega (arith, s₁.0, s₂.0))
