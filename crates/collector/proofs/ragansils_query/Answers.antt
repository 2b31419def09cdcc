-- `collector::ragansils_query` meets its contract.
-- Assumes nothing.
use Rattle.collector.proofs.Tellings.{query-told}
use Rattle.collector.proofs.ragansils_query.Goals as goal

pub returns : goal.returns
returns c = query-told c.query.ensures c.query_words-found.ensures
