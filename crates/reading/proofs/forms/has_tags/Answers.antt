-- `reading::forms::has_tags` meets its contract.
-- Assumes nothing.
use mathlib.Core.Path.{refl}
use Rattle.rules.specs.Forms.{tagged}
use Rattle.reading.proofs.forms.has_tags.Goals as goal

pub returns : goal.returns
unfolding tagged
returns c = refl
