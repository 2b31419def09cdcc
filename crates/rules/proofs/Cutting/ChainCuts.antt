-- Chains after a cut and its recoveries: those of one map.
-- Assumes nothing.
use Prim.Native.Nat.{ℕ, ◌≤◌}
use mathlib.Core.List.{List}
use mathlib.Core.Logic.{inl, inr, ⊎_elim}
use lib.ListN.{length}
use Rattle.rules.specs.Words.{Table}
use Rattle.rules.specs.Soundness.{PlainMap}
use Rattle.rules.specs.Calls.{recover}
use Rattle.rules.specs.Histories.{Event, whole, after, History, Recovery}
use Rattle.rules.specs.Demands.{Recovered}
use Rattle.rules.specs.ChainSentences.{ChainsBy, ChainsAfterCuts}
use Rattle.rules.proofs.Calls.Chains.{chain_answers}
use Rattle.rules.proofs.Cutting.MadeCuts.{cuts_are_safe}
use Rattle.rules.proofs.Cutting.Recurring.{recovery_may_be_cut}

recovered_chains : (v u : Table) (m : PlainMap) (es : List Event) → Recovered v m → History Recovery v es u → (k : List ℕ) → 20 ≤ length k
    → ChainsBy (after u (whole recover k)) m
recovered_chains v u m es r history k room =
    let last = recovery_may_be_cut v u m es r history in
    chain_answers (after u (whole recover k)) m (last.sound k room) (last.map k room)

pub chains_after_cuts : ChainsAfterCuts
chains_after_cuts t m l given q accepted n es u history k room =
    ⊎_elim (λ r. inl (recovered_chains _ u m es r history k room)) (λ r. inr (recovered_chains _ u _ es r history k room))
    ((cuts_are_safe t m l given q accepted).1 n)
