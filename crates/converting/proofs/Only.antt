-- No second answer and no second table keep what convert promises.
-- Assumes nothing.
use mathlib.Core.Path.{◌≡◌, sym, ◌∙◌}
use Rattle.rules.specs.Words.{Table}
use Rattle.rules.specs.Answers.{Conversion}
use Rattle.converting.specs.Promises.{Converts}

pub converts-one : {t a u v x y : Table} {r s : Conversion} → Converts t a r u x → Converts t a s v y → (r ≡ s) × (u ≡ v) × (x ≡ y)
converts-one p q = (p.answer ∙ sym q.answer, p.source ∙ sym q.source, p.second ∙ sym q.second)
