-- `words::hash` meets its contract: a product below 2^64, divided by 2^32, is below 2^32.
-- Assumes nothing.
use Rattle.std.proofs.Common.{arith}
use Rattle.words.specs.Product.{product_of, hash_of}
use Rattle.words.proofs.hash.Goals as goal

pub returns : goal.returns
unfolding hash_of product_of
returns c = (rw c.product.ensures, omega arith)
