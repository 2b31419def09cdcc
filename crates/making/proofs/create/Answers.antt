-- `making::create` meets its contract: where a test fails nothing is written, else the header goes over zeroes.
-- Assumes nothing.
use Prim.Native.Nat.{◌≤◌}
use mathlib.Core.Path.{◌≡◌, sym, ◌∙◌}
use mathlib.Core.Bool.{true}
use lib.ListN.{length, length-set}
use Rattle.rules.specs.Choice.{all}
use Rattle.rules.specs.Results.{create_tests}
use native.Mathlib.Omega.{arith}
use Rattle.making.proofs.Creation.{refused, room as header-room, accepted}
use Rattle.making.proofs.create.Goals as goal
use Rattle.making.proofs.create.Goals.{After-slice_known-2-1, Else-not-creation_good}

-- all tests passed
passed : (c : Else-not-creation_good) →
    let a = c.args in
    all (create_tests (length a.t.now) a.form a.c a.k a.mul1 a.mul2) ≡ true
passed c = sym c.creation_good.ensures ∙ c.if-not-creation_good.false

-- so the zeroed table has room for the header
room : (c : After-slice_known-2-1) → 9 ≤ length c.zero.new.t
room c =
    let a = c.args in
    omega (arith, header-room a.t.now a.form a.c a.k a.mul1 a.mul2 ((sym c.creation_good.ensures ∙ c.if-not-creation_good.false)), c.zero.auto.t)

pub returns-then-not-creation_good : goal.returns-then-not-creation_good
returns-then-not-creation_good c = refused _ _ _ _ _ _ (sym c.creation_good.ensures ∙ c.if-not-creation_good.true)

pub bounds-t-0 : goal.bounds-t-0
bounds-t-0 c = omega (arith, room (goal.at.bounds-t-0 c).After-slice_known-2-1)

pub bounds-t-1 : goal.bounds-t-1
bounds-t-1 c = simp length-set (omega (arith, room (goal.at.bounds-t-1 c).After-slice_known-2-1))

pub bounds-t-2 : goal.bounds-t-2
bounds-t-2 c = simp length-set (omega (arith, room (goal.at.bounds-t-2 c).After-slice_known-2-1))

pub bounds-t-3 : goal.bounds-t-3
bounds-t-3 c = simp length-set (omega (arith, room (goal.at.bounds-t-3 c).After-slice_known-2-1))

pub bounds-t-4 : goal.bounds-t-4
bounds-t-4 c = simp length-set (omega (arith, room (goal.at.bounds-t-4 c).After-slice_known-2-1))

pub returns : goal.returns
returns c = accepted _ _ _ _ _ _ (passed (goal.at.returns c).Else-not-creation_good) _ c.zero.ensures
