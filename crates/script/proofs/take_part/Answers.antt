-- `script::take_part` meets its contract: the first `taken` bytes of the part are taken.
-- Assumes nothing.
use mathlib.Core.Path.{sym, ◌∙◌}
use native.Mathlib.Omega.{arith}
use lib.ListN.{length-drop}
use lib.Seq.{length-take-le}
use borrow.Author.Rules.{rules}
use Rattle.script.proofs.Parts.{true_false, part-begun, rest-lent, part_more, some-taken, part-stopped, part_unwritten}
use Rattle.script.proofs.take_part.Goals as goal

pub loop-taken-init : goal.loop-taken-init
loop-taken-init c = (omega arith, part-begun _)

pub overflow_add-taken : goal.overflow_add-taken
overflow_add-taken c =
    let more = part_more _ c.args.part.now c.loop-taken.taken c.loop-taken.invariant.0 c.loop-taken.invariant.1 c.take_some-took.ensures.0 in
    omega (arith, more.0, c.well_formed)

pub slice_bounds-write_all-end-in-loop-taken : goal.slice_bounds-write_all-end-in-loop-taken
slice_bounds-write_all-end-in-loop-taken c = sym (length-take-le _ _ (search rules))

pub returns-then-not-write_all : goal.returns-then-not-write_all
returns-then-not-write_all c =
    let more = part_more _ c.args.part.now c.loop-taken.taken c.loop-taken.invariant.0 c.loop-taken.invariant.1 c.take_some-took.ensures.0 in
    part_unwritten more.0 more.1

pub loop-taken-smaller : goal.loop-taken-smaller
loop-taken-smaller c =
    let more = part_more _ c.args.part.now c.loop-taken.taken c.loop-taken.invariant.0 c.loop-taken.invariant.1 c.take_some-took.ensures.0 in
    let going = sym c.known.ensures ∙ c.if-not-known.true in
    let left = c.loop-taken-test.true in
    let some = some-taken _ _ _ (rest-lent _ c.args.part.now _ c.take_some-took.ensures.0) going (simp length-drop (omega (arith, left)))
    (omega (arith, c.take_some-took.ensures.1, c.requires)) in
    omega (arith, some, left, more.0)

pub loop-taken-preserved : goal.loop-taken-preserved
loop-taken-preserved c =
    let more = part_more _ c.args.part.now c.loop-taken.taken c.loop-taken.invariant.0 c.loop-taken.invariant.1 c.take_some-took.ensures.0 in
    (more.0, more.1)

pub returns-after-loop-taken : goal.returns-after-loop-taken
returns-after-loop-taken c = part-stopped c.loop-taken.invariant.0 c.loop-taken.invariant.1 (λ _. c.loop-taken-test.false)

pub returns-else-not-known : goal.returns-else-not-known
returns-else-not-known c =
    let l = c.loop-taken in
    let over = sym c.known.ensures ∙ c.if-not-known.false in
    part-stopped l.invariant.0 l.invariant.1 (λ k. absurd (true_false (sym over ∙ k)))
