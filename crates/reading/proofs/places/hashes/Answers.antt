-- `reading::places::hashes` meets its contract.
-- Assumes nothing.
use Rattle.words.specs.Product.{hash_of}
use Rattle.rules.specs.Forms.{tag_of}
use Rattle.rules.specs.Places.{hashes_of}
use Rattle.reading.proofs.places.hashes.Goals as goal

pub returns : goal.returns
unfolding hashes_of hash_of tag_of
returns c = rw (c.tag_from.ensures, c.hash.ensures.0, c.product-product1.ensures, c.mixed-hashed.ensures)
