-- `chaining::position_good` meets its contract.
-- Assumes nothing.
use borrow.Author.Tests.{lt-ltb, le-ltb}
use Rattle.rules.specs.Chains.{position_good}
use Rattle.chaining.proofs.position_good.Goals as goal

pub returns-then-address-lt-ADDRESSES : goal.returns-then-address-lt-ADDRESSES
unfolding position_good
returns-then-address-lt-ADDRESSES c = rw (lt-ltb _ _ c.if-address-lt-ADDRESSES.true)

pub returns : goal.returns
unfolding position_good
returns c = rw (le-ltb _ _ c.if-address-lt-ADDRESSES.false)
