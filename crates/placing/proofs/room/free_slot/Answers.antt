-- `placing::room::free_slot` meets its contract.
-- Assumes nothing.
use native.Mathlib.Omega.{arith}
use Rattle.placing.proofs.Choosing.{place-full, place-free}
use Rattle.placing.proofs.room.free_slot.Goals as goal

pub returns-then-s-eq4 : goal.returns-then-s-eq4
returns-then-s-eq4 c = (place-full _ _ _ c.token-word.ensures c.bucket-items.ensures c.lowest_free-s.ensures.0 c.if-s-eq4.true, tt)

pub returns : goal.returns
returns c =
    let l = c.lowest_free-s.ensures in
    (place-free _ _ _ c.token-word.ensures c.bucket-items.ensures l.0 l.1 c.if-s-eq4.false c.slot_of.ensures.0, omega arith)
