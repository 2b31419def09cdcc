-- Request i): what is changed at a hidden key of the older table changes no record answered.
-- Assumes nothing.
use Prim.Native.Nat.{ℕ, ◌≤◌}
use mathlib.Core.Path.{◌≡◌, refl, sym, ap, ◌∙◌}
use mathlib.Core.List.{List, [], ◌∷◌, ◌++◌}
use mathlib.Core.Logic.{inl, inr}
use mathlib.Core.Option.{Option, none, some}
use native.Mathlib.Omega.{arith}
use borrow.Author.Tests.{ne_eqb}
use Rattle.rules.specs.Words.{Table, header_of}
use Rattle.rules.specs.Stores.{Store, made}
use Rattle.rules.specs.Soundness.{SoundTable, PlainMap, HasMap}
use Rattle.rules.specs.Answers.{query_means}
use Rattle.rules.specs.Calls.{Call, Outcome, listed, insert, update, delete, outcome}
use Rattle.rules.specs.Results.{query_result}
use Rattle.rules.specs.Overlays.{part_result, words_of}
use Rattle.rules.specs.NoPlace.{NoPlaceFor}
use Rattle.rules.specs.Demands.{map_after, Given, QueryBy, Held, FirstRefuses, changing_refusals}
use Rattle.rules.specs.SpotSentences.{told}
use Rattle.rules.specs.OverlaySentences.{number_told, name_told, Sees, OverlayBy, ChangesKey, HiddenChangesNothing}
use Rattle.rules.specs.declared.Record.{Record}
use Rattle.rules.specs.declared.Refusal.{Refusal}
use Rattle.rules.specs.declared.Refusal.TheVariants.{KeyPresent, KeyAbsent, NoPlace}
use Rattle.rules.specs.Answers.{Query}
use Rattle.rules.proofs.Tables.Maps.{map_exists}
use Rattle.rules.proofs.Carrying.Putting.{SoundMap}
use Rattle.rules.proofs.Calls.Queries.{query_answers}
use Rattle.rules.proofs.Calls.Refusals.{refusals_in_order, behind-three}
use Rattle.rules.proofs.Calls.StoreLists.{never-listed}
use Rattle.rules.proofs.Calls.Overlays.{overlay_answers}
use Rattle.rules.proofs.Cutting.SafeCuts.{call_whole}

-- ---- the call

module _ (u : Table) (n : ℕ) (xs : List Store) where
  -- an accepted change had a list of 20 words
  long : (o : Outcome) (fs : List (Type 0 × Refusal)) → o ≡ listed xs → FirstRefuses (changing_refusals u n ++ fs) o → 20 ≤ n
  long o fs e k = (behind-three u n fs o (λ r d. never-listed (sym d ∙ e)) k).0.list

  changes-listed : (key : ℕ) (q : Call) → ChangesKey key q → outcome u n q ≡ listed xs → 20 ≤ n
  changes-listed key q (inl (r, e)) l =
      long _ ((Held u key, KeyPresent) ∷ (NoPlaceFor u (header_of u) key, NoPlace) ∷ []) (rw e at l) (refusals_in_order u n (insert key r))
  changes-listed key q (inr (inl (r, e))) l = long _ (((Held u key → ⊥), KeyAbsent) ∷ []) (rw e at l) (refusals_in_order u n (update key r))
  changes-listed key q (inr (inr e)) l = long _ (((Held u key → ⊥), KeyAbsent) ∷ []) (rw e at l) (refusals_in_order u n (delete key))

-- it leaves the map as it is at every other key
other_keys : (m : PlainMap) (key : ℕ) (q : Call) → ChangesKey key q → (k : ℕ) → (k ≡ key → ⊥) → map_after q m k ≡ m k
other_keys m key q (inl (r, e)) k d = rw (e, ne_eqb k key d)
other_keys m key q (inr (inl (r, e))) k d = rw (e, ne_eqb k key d)
other_keys m key q (inr (inr e)) k d = rw (e, ne_eqb k key d)

-- ---- the answers

module _ (t u v : Table) (key : ℕ) where
  abbrev Same : Type 0
  Same = (name_told t v key ≡ name_told t u key) × Sees t v key (number_told t u key) (words_of (part_result t u key) t u)

  both : (name number : ℕ) (words : List ℕ) → (name_told t u key ≡ name) × Sees t u key number words
      → (name_told t v key ≡ name) × Sees t v key number words → Same
  both name number words a b = (
    b.0 ∙ sym a.0,
    record { answer = b.1.answer ∙ sym a.1.answer; part = b.1.part ∙ sym a.1.part },
  )

  -- by the same records of both maps
  same-records : (o p : Option Record) → OverlayBy t u key o p → OverlayBy t v key o p → Same
  same-records (some r) p a b = both _ _ _ a b
  same-records none (some r) a b = both _ _ _ a b
  same-records none none a b = both _ _ _ a b

  -- where the newer table has the key, the older's record plays no part
  hidden_record : (r : Record) (p q : Option Record) → OverlayBy t u key (some r) p → OverlayBy t v key (some r) q → Same
  hidden_record r p q a b = both _ _ _ a b

-- a key that a query finds is one of the map
in_map : (t : Table) (m : PlainMap) → SoundTable t → HasMap t m → (key : ℕ) → (told t key).number ≡ 0 → m key ≡ none → ⊥
in_map t m sound map key z e =
    let a : QueryBy none (query_result t key) = rw e at (query_answers t m sound map key) in
    absurd (omega (arith, z, ap (λ (q : Query). (query_means q).number) a.1))

pub hidden_changes_nothing : HiddenChangesNothing
hidden_changes_nothing t u sound below hidden z n q change xs e =
    let m = map_exists t sound in
    let k = map_exists u below in
    let given : Given u k.0 n = record { sound = below; map = k.1; room = changes-listed u n xs hidden q change e } in
    let after = call_whole u k.0 n given q xs e in
    (after.sound, λ key. go m k after key (m.0 key) refl)
  where
    go : (m : (m : PlainMap) × HasMap t m × ((n : PlainMap) → HasMap t n → (key : ℕ) → n key ≡ m key))
        (k : (m : PlainMap) × HasMap u m × ((n : PlainMap) → HasMap u n → (key : ℕ) → n key ≡ m key))
        → SoundMap (made u xs) (map_after q k.0) → (key : ℕ) (o : Option Record) → m.0 key ≡ o → Same t u (made u xs) key
    go m k after key (some r) d =
        hidden_record t u (made u xs) key r (k.0 key) (map_after q k.0 key)
        (rw d at (overlay_answers t u m.0 k.0 sound m.1 below k.1 key))
        (rw d at (overlay_answers t (made u xs) m.0 (map_after q k.0) sound m.1 after.sound after.map key))
    go m k after key none d =
        let far : key ≡ hidden → ⊥ = λ i. in_map t m.0 sound m.1 hidden z (ap m.0 (sym i) ∙ d) in
        same-records t u (made u xs) key none (k.0 key)
        (rw d at (overlay_answers t u m.0 k.0 sound m.1 below k.1 key))
        (rw (d, other_keys k.0 hidden q change key far)
        at (overlay_answers t (made u xs) m.0 (map_after q k.0) sound m.1 after.sound after.map key))
