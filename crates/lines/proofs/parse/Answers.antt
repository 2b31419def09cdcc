-- `lines::parse` meets its contract: what the line says is what the rows from this one on say of it.
-- Assumes nothing.
use Rattle.std.proofs.Common.{refl, sym, ◌∙◌}
use Rattle.lines.specs.Lines.{line_of}
use Rattle.lines.proofs.Rows.{first_said, row_hit, row_passed, rows_over}
use Rattle.lines.proofs.parse.Goals as goal

pub loop-text-init : goal.loop-text-init
unfolding line_of first_said
loop-text-init c = refl

pub returns-in-Some : goal.returns-in-Some
returns-in-Some c =
    let hit = row_hit _ _ _ c.loop-text-test.true _ c.in-Some.ensures.cases.0 c.in-Some.ensures.cases.1 in
    record { answer = c.whole.ensures ∙ sym (c.loop-text.invariant ∙ hit); stays = refl }

pub loop-text-preserved : goal.loop-text-preserved
loop-text-preserved c = c.loop-text.invariant ∙ row_passed _ _ _ c.loop-text-test.true _ c.in_default.ensures.cases

pub returns : goal.returns
returns c = record { answer = sym (c.loop-text.invariant ∙ rows_over _ _ _ c.loop-text-test.false); stays = refl }
