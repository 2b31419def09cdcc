-- `words::product` meets its contract: the three products of half words fit, and their sum is the product modulo 2^64.
-- Assumes nothing.
use Rattle.words.specs.Product.{product_of}
use Rattle.words.proofs.Halves.{wrapped}
use Rattle.words.proofs.product.Goals as goal

pub returns : goal.returns
unfolding product_of
returns c = rw (c.wrapping_add_u64.ensures.value, c.wrapping_add_u64-middle.ensures.value) (wrapped c.args.a c.args.b)
