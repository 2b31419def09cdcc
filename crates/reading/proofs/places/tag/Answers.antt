-- `reading::places::tag` meets its contract.
-- Assumes nothing.
use Rattle.rules.specs.Forms.{tag_of}
use Rattle.rules.proofs.Words.Tokens.{tag_small}
use mathlib.Core.Path.{◌≡◌}
use Rattle.reading.proofs.places.tag.Goals as goal

pub returns : goal.returns
unfolding tag_of
returns c =
    let is : c.tag_from.result ≡ tag_of c.args.h c.args.key =
    rw (c.tag_from.ensures, c.product.ensures, c.mixed.ensures) in
    (is, rw is (tag_small _ _))
