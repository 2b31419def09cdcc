-- `chaining::walk` meets its contract.
-- Assumes nothing.
use Rattle.std.proofs.Common.{arith}
use Rattle.reading.proofs.Gated.{nine_words}
use Rattle.chaining.proofs.Walking.{last_depth, next_depth, nothing_below, put_on, gap, stands_there, not_there, few, smaller}
use Rattle.chaining.proofs.+walk.Goals as goal

pub decode-requires : goal.decode-requires
decode-requires t c = nine_words c.requires.0

pub lookup-found-requires : goal.lookup-found-requires
lookup-found-requires t c = rw c.decode.ensures c.requires.0

pub overflow_add-looked : goal.overflow_add-looked
overflow_add-looked t c = omega (arith, c.requires.2, rw c.in-Absent.is at (few _ _ c.decode.ensures c.lookup-found.ensures.0))

pub overflow_add-looked-in-Stands : goal.overflow_add-looked-in-Stands
overflow_add-looked-in-Stands t c = omega (arith, c.requires.2, rw c.in-Stands.is at (few _ _ c.decode.ensures c.lookup-found.ensures.0))

pub record_at-r-requires : goal.record_at-r-requires
record_at-r-requires t c = rw c.in-Stands.is at c.lookup-found.ensures.1

pub put_before-requires : goal.put_before-requires
put_before-requires t c = omega (arith, c.requires.1)

pub returns-then-depth-eq0 : goal.returns-then-depth-eq0
returns-then-depth-eq0 t c =
    let k = stands_there _ _ c.decode.ensures c.lookup-found.ensures.0 c.in-Stands.is c.record_at-r.ensures in
    rw (last_depth _ _ c.if-depth-eq0.true) (put_on k c.put_before.ensures.0 c.put_before.ensures.1 _ (nothing_below _ _ _))

pub walk-below-requires : goal.walk-below-requires
walk-below-requires t c =
    let p = c.requires in
    let deeper = c.if-depth-eq0.false in
    let six = rw c.in-Stands.is at (few _ _ c.decode.ensures c.lookup-found.ensures.0) in
    (omega (arith, deeper), (p.0, omega (arith, p.1, deeper), omega (arith, p.2, deeper, six)))

pub put_before-requires-in-Stands : goal.put_before-requires-in-Stands
put_before-requires-in-Stands t c = omega (arith, c.walk-below.auto, c.requires.1)

pub returns-in-Absent : goal.returns-in-Absent
returns-in-Absent t c = gap _ _ _ _ _ (not_there _ _ c.decode.ensures c.lookup-found.ensures.0 c.in-Absent.is)

pub returns-else-depth-eq0 : goal.returns-else-depth-eq0
returns-else-depth-eq0 t c =
    let n = c.if-depth-eq0.false in
    let k = stands_there _ _ c.decode.ensures c.lookup-found.ensures.0 c.in-Stands.is c.record_at-r.ensures in
    rw (next_depth _ _ n) (put_on k c.put_before-in-Stands.ensures.0 c.put_before-in-Stands.ensures.1 _ (smaller _ _ n c.walk-below.ensures))
