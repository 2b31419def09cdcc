-- `making::store_all` meets its contract: making all pairs is making those that are left in the table so far.
-- Assumes nothing.
use Prim.Native.Nat.{◌<◌}
use mathlib.Core.Path.{◌≡◌, refl, sym, ap, ◌∙◌}
use mathlib.Core.Bool.{true}
use native.Mathlib.Omega.{arith}
use lib.ListN.{length, get_or, length-set}
use Rattle.rules.specs.Stores.{made}
use Rattle.making.specs.Indexes.{inside}
use Rattle.making.proofs.Making.{pairs_in, pairs_taken, no_pairs, others, indexes-inside, stored}
use Rattle.making.proofs.store_all.Goals as goal
use Rattle.making.proofs.store_all.Goals.{In-len2-up}

-- the index of the next pair is inside the table, and so are those after it
index : (c : In-len2-up) →
    let l = c.loop-rest.rest.now in
    (get_or l 0 0 < length c.loop-rest.t) × (inside (length c.args.t.now) (pairs_in (others l c.in-len2-up.len_at_least)) ≡ true)
index c =
    let v = c.loop-rest.invariant in
    let p = indexes-inside _ c.in-len2-up.len_at_least _ v.1 in
    (omega (arith, p.0, v.0), p.1)

pub loop-rest-init : goal.loop-rest-init
loop-rest-init c =
    let e = pairs_taken _ _ c.requires.0 in
    (refl, ap (inside _) e ∙ c.requires.1, ap (made _) (sym e))

pub offset_bounds-t-index : goal.offset_bounds-t-index
offset_bounds-t-index c = omega (arith, (index (goal.at.offset_bounds-t-index c).In-len2-up).0)

pub bounds-t-index : goal.bounds-t-index
bounds-t-index c = (index (goal.at.bounds-t-index c).In-len2-up).0

pub loop-rest-preserved : goal.loop-rest-preserved
loop-rest-preserved c =
    let v = c.loop-rest.invariant in
    (simp length-set v.0, (index (goal.at.loop-rest-preserved c).In-len2-up).1, v.2 ∙ stored _ c.in-len2-up.len_at_least _)

pub returns : goal.returns
returns c =
    let v = c.loop-rest.invariant in
    sym (v.2 ∙ ap (made _) (no_pairs _ c.in_default.len_below))
