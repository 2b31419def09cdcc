-- "also when recovery is cut, however often": after any recoveries, each cut anywhere, one that is whole brings the same map.
-- Assumes nothing.
use Prim.Native.Nat.{ℕ}
use mathlib.Core.Path.{◌≡◌, refl, sym, ap, ◌∙◌}
use mathlib.Core.List.Memᴰ.{head as here}
use mathlib.Core.List.Memᴰ.{tail as there}
use mathlib.Core.List.{List, [], ◌∷◌}
use mathlib.Core.Option.{some}
use mathlib.Core.Logic.{◌⊎◌, inl, inr}
use native.Mathlib.Omega.{arith}
use lib.ListN.{length, take, replicate}
use lib.Seq.{take-nil, take-length}
use borrow.Author.Tests.{leb-true}
use Rattle.rules.specs.Words.{Table, GoodHeader, header_of, key_in, record_in, token_of}
use Rattle.rules.specs.Stores.{Store, clear_stores, made}
use Rattle.rules.specs.Soundness.{PlainMap, HasMap, DoubledTable, finding}
use Rattle.rules.specs.Calls.{list_long, recover_tests, Outcome, refused, listed, recover, recover_of, outcome}
use Rattle.rules.specs.Histories.{Event, whole, cut, kept, after, after_all, Every, Recovery}
use Rattle.rules.specs.Demands.{Recovered, RecoveryMayBeCut}
use Rattle.rules.specs.declared.Slot.{Slot}
use Rattle.rules.specs.declared.Finding.{Finding}
use Rattle.rules.specs.declared.Finding.TheVariants.{Sound, Doubled, Flagged, Neither}
use Rattle.rules.specs.declared.Refusal.TheVariants.{ShortList}
use Rattle.rules.proofs.Calls.Checked.{checked_passed, accepted-header}
use Rattle.rules.proofs.Calls.StoreLists.{listed-one, never-listed}
use Rattle.rules.proofs.Tables.Twins.{before-apart}
use Rattle.rules.proofs.Tables.Findings.{KindOf, finding-means, recover_passes}
use Rattle.rules.proofs.Carrying.Carried.{carried_stays, carried_back}
use Rattle.rules.proofs.Carrying.Moving.{Nothing, Only, copied_map}
use Rattle.rules.proofs.Calls.MadeLists.{stores_of, after-whole, after-cut, accepted-lists}
use Rattle.rules.proofs.Cutting.Cuts.{cut-after}
use Rattle.rules.proofs.Carrying.Putting.{SoundMap, clear_writes, clear_carries, good_cleared}
use Rattle.rules.proofs.Cutting.Mending.{Mends, as_sound, as_redo, doubled_twin, mends, recovered}

-- ---- what recovery brings a map back from is one of the three kinds, with that map

module _ (t : Table) (m : PlainMap) where
  -- the two copies have one record, so the map with one of them cleared is the map with both
  doubled_mends : (x y : Slot) → DoubledTable t x y → HasMap (made t (clear_stores (header_of t) (token_of t y.bucket) y)) m → Mends t m
  doubled_mends x y d has =
      let o = d.orderly in
      let u = made t (clear_stores (header_of t) (token_of t y.bucket) y) in
      let carried = clear_carries t o y d.later in
      let still = carried_stays t u (Only y) Nothing carried (header_of t).c (good_cleared t o y d.later)
      (clear_writes t o y d.later).near.header x d.first (before-apart x y d.order) in
      let stands : m (key_in t y) ≡ some (record_in t y) = ap m (sym (still.1 ∙ d.key)) ∙ has.stands x still.0
      ∙ ap some (still.2 ∙ d.equal) in
      doubled_twin t m x y d (copied_map u t (header_of t).c o.header.state m has y (carried_back t u (Only y) carried) stands)

  recovered_mends : Recovered t m → Mends t m
  recovered_mends r = go (finding t) (finding-means t) (sym (recover_passes t 20 header (omega arith)) ∙ answer)
    where
      -- any list of 20 words tells
      list : List ℕ
      list = replicate 20 0

      lists : (xs : List Store) × (outcome t 20 recover ≡ listed xs)
      lists = accepted-lists t list recover (rw (r.answer list (omega arith)) tt)

      stores : List Store
      stores = lists.0

      answer : outcome t 20 recover ≡ listed stores
      answer = lists.1

      header : GoodHeader (length t) (header_of t)
      header = accepted-header t 20 recover stores answer

      same : after t (whole recover list) ≡ made t stores
      same = after-whole t list recover ∙ ap (λ o. made t (stores_of o)) answer

      sound : SoundMap (made t stores) m
      sound = record { sound = rw same at (r.sound list (omega arith)); map = rw same at (r.map list (omega arith)) }

      go : (f : Finding) → KindOf t f → recover_of t (header_of t) f ≡ listed stores → Mends t m
      go Sound k e = as_sound (rw (listed-one e) at sound)
      go (Doubled x y) k e = doubled_mends x y k (rw (listed-one e) at sound.map)
      go (Flagged x) k e = as_redo x (record { flagged = k; brings = rw (listed-one e) at sound })
      go Neither k e = never-listed e

-- ---- a recovery, whole or cut

module _ (t : Table) (m : PlainMap) (k : Mends t m) (room : ℕ) where
  -- it lists what mends, or with a short list nothing
  recovery_lists : (o : Outcome) → outcome t room recover ≡ o → (stores_of o ≡ (mends t m k).stores) ⊎ (stores_of o ≡ [])
  unfolding outcome recover_tests list_long
  recovery_lists (refused r) e = inr refl
  recovery_lists (listed xs) e =
      let long = leb-true 20 room (checked_passed _ xs (recover_tests t room) e (list_long room, ShortList) (there (here refl))) in
      inl (listed-one (sym ((mends t m k).answer room long) ∙ e))

  -- so many of its stores, made
  recovery_cut : (n : ℕ) → Mends (made t (take n (stores_of (outcome t room recover)))) m
  recovery_cut n = go (recovery_lists (outcome t room recover) refl)
    where
      go : (stores_of (outcome t room recover) ≡ (mends t m k).stores) ⊎ (stores_of (outcome t room recover) ≡ [])
          → Mends (made t (take n (stores_of (outcome t room recover)))) m
      go (inl e) = rw e (cut-after (λ (u : Table). Mends u m) t (mends t m k).stores (mends t m k).cuts n)
      go (inr e) = rw (e, take-nil n) k

event_mends : (t : Table) (m : PlainMap) (e : Event) → Recovery e → Mends t m → Mends (after t e) m
event_mends t m (whole q l) r k =
    rw (r, after-whole t l recover)
    (rw (take-length (stores_of (outcome t (length l) recover))) at (recovery_cut t m k (length l) (length (stores_of (outcome t (length l) recover)))))
event_mends t m (cut q l n) r k = rw (r, after-cut t l recover n) (recovery_cut t m k (length l) (kept t (cut recover l n)))

events_mend : (t : Table) (m : PlainMap) (es : List Event) → Every Recovery es → Mends t m → Mends (after_all t es) m
events_mend t m [] p k = k
events_mend t m (e ∷ es) p k = events_mend (after t e) m es p.1 (event_mends t m e p.0 k)

pub recovery_may_be_cut : RecoveryMayBeCut
recovery_may_be_cut t u m es r history = recovered u m (rw history.leads at (events_mend t m es history.permitted (recovered_mends t m r)))
