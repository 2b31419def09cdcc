-- `converting::other_form` meets its contract.
-- Assumes nothing.
use borrow.Author.Tests.{eq-eqb, ne_eqb}
use Rattle.rules.specs.Conversions.{other_form}
use Rattle.converting.proofs.other_form.Goals as goal

pub returns-then-form-eq1 : goal.returns-then-form-eq1
unfolding other_form
returns-then-form-eq1 c = rw (eq-eqb _ _ c.if-form-eq1.true)

pub returns : goal.returns
unfolding other_form
returns c = rw (ne_eqb _ _ c.if-form-eq1.false)
