-- `replaying::turns::tabled` meets its contract.
-- Assumes nothing.
use Rattle.std.proofs.Common.{refl}
use Rattle.replaying.proofs.Taken.{too_large_lem, table_taken, table_denied}
use Rattle.replaying.proofs.turns.tabled.Goals as goal

pub returns-then-c-gt8 : goal.returns-then-c-gt8
returns-then-c-gt8 c = too_large_lem c.args.p c.args.next _ _ _ _ _ c.if-c-gt8.true c.unmade.ensures

pub returns-in-Ok : goal.returns-in-Ok
returns-in-Ok c =
    table_taken c.args.p c.args.next _ _ _ _ _ (rw c.words_for-words.ensures at c.least-lent.ensures) c.if-c-gt8.false _ _
    c.create.ensures c.in-Ok.is (rw c.words_for-words.ensures) refl

pub returns-in-Err : goal.returns-in-Err
returns-in-Err c =
    table_denied c.args.p c.args.next _ _ _ _ _ (rw c.words_for-words.ensures at c.least-lent.ensures) c.if-c-gt8.false _ _
    c.create.ensures c.in-Err.is c.unmade-in-Err.ensures
