-- `reading::forms::form_good` meets its contract.
-- Assumes nothing.
use Rattle.reading.proofs.HeaderTests.{form-one, form-other}
use Rattle.reading.proofs.forms.form_good.Goals as goal

pub returns-then-form-eq1 : goal.returns-then-form-eq1
returns-then-form-eq1 c = form-one _ c.if-form-eq1.true

pub returns : goal.returns
returns c = form-other _ c.if-form-eq1.false
