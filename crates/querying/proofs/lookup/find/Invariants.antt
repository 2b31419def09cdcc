-- `querying::lookup::find` meets its contract.
-- Assumes nothing.
use Prim.Native.Nat.{ℕ, ◌-◌, ◌≤◌}
use mathlib.Core.Path.{◌≡◌}
use Rattle.rules.specs.Places.{probes, hit_in, seek}
use Rattle.rules.specs.declared.Lookup.TheVariants.{Absent}
use Rattle.querying.specs.Turns.{nth_place}
use Rattle.querying.proofs.Seeking.{Left}
use Rattle.querying.proofs.Turning.{in_turns}
use Rattle.querying.proofs.lookup.find.Given as goal

abbrev pub invariant-loop-left : goal.invariant-loop-left
invariant-loop-left l = (l.answer ≡ Absent l.looked) × ((m : ℕ) × Left l.t l.h l.key l.p m l.left)

abbrev pub decreases-loop-left : goal.decreases-loop-left
decreases-loop-left l = l.left

abbrev pub invariant-search : goal.invariant-search
invariant-search l =
    (l.answer ≡ Absent l.looked) × (l.looked ≤ l.i) × ((l.i ≡ 0 → ⊥) → l.last ≡ (nth_place l.h.state l.x (l.i - 1)).bucket)
    × (seek (hit_in l.t l.h l.key) 0 (probes l.h.state l.x) ≡ in_turns l.t l.h l.key l.h.state l.x l.i l.looked)

abbrev pub decreases-search : goal.decreases-search
decreases-search l = l.n - l.i
