-- `collector::ragansils_convert` meets its contract.
-- Assumes nothing.
use Rattle.collector.proofs.Tellings.{convert_told}
use Rattle.collector.proofs.ragansils_convert.Goals as goal

pub returns : goal.returns
returns c = convert_told c.convert.ensures c.conversion_words-answer.ensures
