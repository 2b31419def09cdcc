-- "Recovery accepts exactly three kinds of table", and makes each of them a sound one, whatever led to it.
-- Assumes nothing.
use Prim.Native.Nat.{ℕ, ◌+◌, ◌≤◌}
use mathlib.Core.Path.{◌≡◌, refl, sym, ap, ◌∙◌}
use mathlib.Core.List.Memᴰ.{head as here}
use mathlib.Core.List.Memᴰ.{tail as there}
use mathlib.Core.List.{List, [], ◌∷◌}
use mathlib.Core.Logic.{◌⊎◌, inl, inr}
use native.Mathlib.Omega.{arith}
use lib.ListN.{length}
use borrow.Author.Tests.{leb-true}
use Rattle.rules.specs.Words.{Table, GoodHeader, header_of, flag_of, logged_of, key_in, record_in, token_of, token_word, key_word, function_word, place_word}
use Rattle.rules.specs.Stores.{Store, redo_stores, made}
use Rattle.rules.specs.Soundness.{SoundTable, PlainMap, map_of, DoubledTable, FlaggedTable, finding}
use Rattle.rules.specs.Calls.{list_long, recover_tests, listed, recover, recover_of, outcome}
use Rattle.rules.specs.Results.{change_result}
use Rattle.rules.specs.Histories.{whole, after, Accepted}
use Rattle.rules.specs.declared.Slot.{Slot}
use Rattle.rules.specs.declared.Finding.{Finding}
use Rattle.rules.specs.declared.Finding.TheVariants.{Sound, Doubled, Flagged, Neither}
use Rattle.rules.specs.declared.Refusal.TheVariants.{ShortList}
use Rattle.rules.proofs.Words.Headers.{header-fits}
use Rattle.rules.proofs.Words.Made.{made_kept, made_left}
use Rattle.rules.proofs.Tables.Maps.{record_map, sound-map}
use Rattle.rules.proofs.Tables.Findings.{KindOf, finding-means, recover_passes}
use Rattle.rules.proofs.Carrying.Touched.{Touched, touched, unseen, unseen_orderly}
use Rattle.rules.proofs.Carrying.Carried.{carried_alone}
use Rattle.rules.proofs.Carrying.Moving.{Nothing}
use Rattle.rules.proofs.Calls.Checked.{checked_passed, accepted-header}
use Rattle.rules.proofs.Calls.MadeLists.{accepted-lists}
use Rattle.rules.proofs.Calls.StoreLists.{never-listed}
use Rattle.rules.proofs.Cutting.Mending.{Mends, as_sound, as_redo, doubled_twin, still_flagged, recovered}

-- ---- a key that stands twice with equal records

doubled_mends : (t : Table) (x y : Slot) → DoubledTable t x y → Mends t (map_of t)
doubled_mends t x y d = doubled_twin t (map_of t) x y d (record_map t (λ a b p q k. same (d.only a b p q k)))
  where
    same : {a b : Slot} → (a ≡ b) ⊎ (((a ≡ x) × (b ≡ y)) ⊎ ((a ≡ y) × (b ≡ x))) → record_in t a ≡ record_in t b
    same (inl e) = ap (record_in t) e
    same (inr (inl (e, f))) = ap (record_in t) e ∙ d.equal ∙ ap (record_in t) (sym f)
    same (inr (inr (e, f))) = ap (record_in t) e ∙ sym d.equal ∙ ap (record_in t) (sym f)

-- ---- flag 1 with a good log

-- the flag cleared
module _ (t : Table) (x : Slot) (f : FlaggedTable t x) where
  cleared : List Store
  cleared = (5, 0) ∷ []

  near : Touched t (made t cleared) x
  unfolding cleared
  near = touched x f.named.used.slot t cleared (inl (omega arith), tt)

  token : token_of (made t cleared) x.bucket ≡ token_of t x.bucket
  unfolding cleared token_of token_word
  token = made_kept t cleared (token_word x.bucket) ((λ q. omega arith), tt)

  item : (key_in (made t cleared) x ≡ key_in t x) × (record_in (made t cleared) x ≡ record_in t x)
  unfolding cleared key_in record_in key_word token_word function_word place_word
  item = (
    made_kept t cleared (key_word x) ((λ q. omega arith), tt),
    rw (made_kept t cleared (key_word x + 1) ((λ q. omega arith), tt), made_kept t cleared (key_word x + 2) ((λ q. omega arith), tt)),
  )

  flag : flag_of (made t cleared) ≡ 0
  unfolding cleared flag_of
  flag = made_left t cleared 5 0 (omega (arith, header-fits (length t) (header_of t) f.orderly.header)) (inl (refl, refl, tt))

  flag_cleared : SoundTable (made t cleared)
  flag_cleared =
      let u = made t cleared in
      let good = f.orderly.header.state in
      let carried = unseen (header_of t).c t u x near good f.named.used token (λ q. item) in
      let orderly = unseen_orderly (header_of t).c t u x near good f.named.used token (λ q. item) 1 0 f.orderly flag in
      record {
        orderly = orderly;
        alone = carried_alone t u Nothing Nothing carried _ orderly.header.state (λ a b p q g h e. f.alone a b p q e) (λ a b n. absurd n)
            (λ a b n. absurd n);
      }

flagged_mends : (t : Table) (x : Slot) → FlaggedTable t x → Mends t (map_of (made t (redo_stores x (logged_of t))))
unfolding redo_stores function_word place_word cleared
flagged_mends t x f =
    let r = logged_of t in
    let two : List Store = (function_word x, r.function) ∷ (place_word x, r.place) ∷ [] in
    let s : SoundTable (made t (redo_stores x r)) = flag_cleared (made t two) x (still_flagged t x f two (omega arith, (omega arith, tt))) in
    as_redo x (record { flagged = f; brings = record { sound = s; map = sound-map _ s } })

-- ---- every table that recovery accepts

pub recovery_restores : (t : Table) (l : List ℕ) → Accepted (change_result t l recover).0 → SoundTable (after t (whole recover l))
unfolding outcome recover_tests list_long
recovery_restores t l a = by_kind (finding t) (finding-means t) (sym (recover_passes t (length l) good long) ∙ lists.1)
  where
    lists : (xs : List Store) × (outcome t (length l) recover ≡ listed xs)
    lists = accepted-lists t l recover a

    good : GoodHeader (length t) (header_of t)
    good = accepted-header t (length l) recover lists.0 lists.1

    long : 20 ≤ length l
    long = leb-true 20 (length l) (checked_passed _ lists.0 (recover_tests t (length l)) lists.1 (list_long (length l), ShortList) (there (here refl)))

    from : (m : PlainMap) → Mends t m → SoundTable (after t (whole recover l))
    from m k = (recovered t m k).sound l long

    by_kind : (k : Finding) → KindOf t k → recover_of t (header_of t) k ≡ listed lists.0 → SoundTable (after t (whole recover l))
    by_kind Sound k e = from (map_of t) (as_sound (record { sound = k; map = sound-map t k }))
    by_kind (Doubled x y) k e = from (map_of t) (doubled_mends t x y k)
    by_kind (Flagged x) k e = from _ (flagged_mends t x k)
    by_kind Neither k e = never-listed e
