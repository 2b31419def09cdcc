-- `chaining::chain` meets its contract.
-- Assumes nothing.
use Rattle.reading.proofs.Gated.{passed_on, open_ready}
use Rattle.chaining.proofs.Answered.{refused, let_through}
use Rattle.chaining.proofs.chain.Goals as goal

pub returns-in_err-query_gate : goal.returns-in_err-query_gate
returns-in_err-query_gate c = rw (passed_on c.from_residual.ensures.1) (refused _ _ _ _ c.query_gate.ensures.0 c.in_err-query_gate.was)

pub chain_at-requires : goal.chain_at-requires
chain_at-requires c = open_ready _ _ c.query_gate.ensures.1 c.in_ok-query_gate.was

pub returns : goal.returns
returns c = let_through _ _ _ _ c.query_gate.ensures.0 c.in_ok-query_gate.was c.chain_at.ensures
