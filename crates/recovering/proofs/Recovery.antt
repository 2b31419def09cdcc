-- What recovery lists, by what it finds.
-- Assumes nothing.
use Prim.Native.Nat.{ℕ}
use mathlib.Core.Path.{◌≡◌, refl}
use mathlib.Core.List.{List, []}
use Rattle.rules.specs.Words.{Table, token_of, logged_of}
use Rattle.rules.specs.Stores.{written, clear_stores, redo_stores}
use Rattle.rules.specs.Soundness.{finding}
use Rattle.rules.specs.Answers.{FindingTells}
use Rattle.rules.proofs.Calls.Meanings.{finding-told_by}
use Rattle.rules.specs.Calls.{refused, listed, recover_of}
use Rattle.rules.specs.declared.Header.{Header}
use Rattle.rules.specs.declared.Slot.{Slot}
use Rattle.rules.specs.declared.Record.{Record}
use Rattle.rules.specs.declared.Finding.{Finding}
use Rattle.rules.specs.declared.Finding.TheVariants.{Sound, Doubled, Flagged, Neither}
use Rattle.rules.specs.declared.Refusal.TheVariants.{NoKind}
use Rattle.std.specs.Prelude.{Ok}
use Rattle.listing.specs.Promises.{Did}

-- "sound: no stores"
pub did_nothing : (l : List ℕ) → Did (listed []) l (Ok 0) l
unfolding written
did_nothing l = record { answer = refl; list = refl }

module _ (t : Table) (h : Header) (f : Finding) (e : FindingTells f (finding t)) where
  pub recover-sound : f ≡ Sound → listed [] ≡ recover_of t h (finding t)
  recover-sound k = rw (← finding-told_by e, k)

  pub recover_neither : f ≡ Neither → refused NoKind ≡ recover_of t h (finding t)
  recover_neither k = rw (← finding-told_by e, k)

  pub recover-doubled : {x y : Slot} {w : ℕ} → f ≡ Doubled x y → w ≡ token_of t y.bucket → listed (clear_stores h w y) ≡ recover_of t h (finding t)
  recover-doubled k q = rw (← finding-told_by e, k, q)

  pub recover-flagged : {x : Slot} {r : Record} → f ≡ Flagged x → r ≡ logged_of t → listed (redo_stores x r) ≡ recover_of t h (finding t)
  recover-flagged k q = rw (← finding-told_by e, k, q)
