-- `collector::ragansils_chain` meets its contract.
-- Assumes nothing.
use Rattle.collector.proofs.Tellings.{chain_whole, chain_broken}
use Rattle.collector.proofs.ragansils_chain.Goals as goal

pub returns-in-Ok : goal.returns-in-Ok
returns-in-Ok c = chain_whole c.chain.ensures c.in-Ok.is

pub returns-in-Err : goal.returns-in-Err
returns-in-Err c = chain_broken c.chain.ensures c.in-Err.is c.number.ensures
