-- `convert::put_table` meets its contract.
-- Assumes nothing.
use Rattle.rules.specs.Words.{words_for}
use native.Mathlib.Omega.{arith}
use Rattle.replaying.proofs.Rooms.{least_fits}
use Rattle.convert.proofs.Ways.{zeros-lent, lent-ways}
use Rattle.convert.proofs.put_table.Goals as goal

pub slice_bounds-put_ways-end-2 : goal.slice_bounds-put_ways-end-2
slice_bounds-put_ways-end-2 c = least_fits _ _ c.least-lent.ensures

pub slice_bounds-put_ways-end-3 : goal.slice_bounds-put_ways-end-3
unfolding words_for
slice_bounds-put_ways-end-3 c = zeros-lent c.least-lent.result 3324 (omega (arith, c.least-lent.ensures, c.requires.0))

pub slice_bounds-second-end : goal.slice_bounds-second-end
unfolding words_for
slice_bounds-second-end c = omega (arith, c.least-lent.ensures, c.requires.0)

pub returns : goal.returns
unfolding words_for
returns c =
    let same = lent-ways c.args.words c.args.room.now 3324 c.least-lent.ensures (omega (arith, c.requires.0)) in
    rw (← same) c.put_ways.ensures
