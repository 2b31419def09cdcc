-- `lines::parse_sample` meets its contract.
-- Assumes nothing.
use Rattle.std.proofs.Common.{refl}
use Rattle.lines.proofs.Rows.{sample_other, sample_key, sample_bad}
use Rattle.lines.proofs.parse_sample.Goals as goal

pub returns-in-Some-read_decimal : goal.returns-in-Some-read_decimal
returns-in-Some-read_decimal c =
    record { answer = sample_key _ c.in-Some.ensures.cases.0 c.in-Some.ensures.cases.1 c.in-Some-read_decimal.ensures; stays = refl }

pub returns-in-None-read_decimal : goal.returns-in-None-read_decimal
returns-in-None-read_decimal c =
    record { answer = sample_bad _ c.in-Some.ensures.cases.0 c.in-Some.ensures.cases.1 c.in-None-read_decimal.ensures; stays = refl }

pub returns-in-None : goal.returns-in-None
returns-in-None c = record { answer = sample_other _ c.in-None.ensures.cases; stays = refl }
