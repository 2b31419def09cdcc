-- The demand: from a sound table, after any number of an accepted call's stores, made from its list, recovery brings the map before or the
-- map after back; after all of them it is the map after.
-- Assumes nothing.
use Prim.Native.Nat.{ℕ}
use mathlib.Core.Path.{◌≡◌, ap, ◌∙◌}
use mathlib.Core.List.{List}
use mathlib.Core.Logic.{◌⊎◌, inl, inr, ⊎_elim}
use lib.ListN.{length, take}
use Rattle.rules.specs.Words.{Table}
use Rattle.rules.specs.Stores.{Store, made}
use Rattle.rules.specs.Soundness.{SoundTable, PlainMap, HasMap}
use Rattle.rules.specs.Calls.{listed, Call, outcome}
use Rattle.rules.specs.Histories.{whole, cut, kept, after}
use Rattle.rules.specs.Demands.{Given, map_after, Recovered, CutsAreSafe}
use Rattle.rules.proofs.Calls.MadeLists.{stores_of, after-whole, after-cut, accepted-lists}
use Rattle.rules.proofs.Cutting.Cuts.{cut-after}
use Rattle.rules.proofs.Cutting.Mending.{Mends, recovered}
use Rattle.rules.proofs.Cutting.SafeCuts.{Either, call_whole, call_cuts}

module _ (t : Table) (m : PlainMap) (l : List ℕ) (given : Given t m (length l)) (q : Call) (xs : List Store) (e : outcome t (length l) q ≡ listed xs) where
  whole-map : SoundTable (after t (whole q l)) × HasMap (after t (whole q l)) (map_after q m)
  whole-map =
      let same : after t (whole q l) ≡ made t xs = after-whole t l q ∙ ap (λ o. made t (stores_of o)) e in
      let last = call_whole t m (length l) given q xs e in
      rw same (last.sound, last.map)

  cut-map : (n : ℕ) → Recovered (after t (cut q l n)) m ⊎ Recovered (after t (cut q l n)) (map_after q m)
  cut-map n =
      let number = kept t (cut q l n) in
      let same : after t (cut q l n) ≡ made t (take number xs) = after-cut t l q n ∙ ap (λ o. made t (take number (stores_of o))) e in
      let left = cut-after (Either m (map_after q m)) t xs (call_cuts t m (length l) given q xs e) number in
      rw same (⊎_elim (λ (k : Mends (made t (take number xs)) m). inl (recovered _ m k))
      (λ (k : Mends (made t (take number xs)) (map_after q m)). inr (recovered _ (map_after q m) k)) left)

pub cuts_are_safe : CutsAreSafe
cuts_are_safe t m l given q accepted =
    let lists = accepted-lists t l q accepted in
    (whole-map t m l given q lists.0 lists.1, cut-map t m l given q lists.0 lists.1)
