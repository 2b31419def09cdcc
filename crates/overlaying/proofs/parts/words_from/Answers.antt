-- `overlaying::parts::words_from` meets its contract.
-- Assumes nothing.
use mathlib.Core.Path.{refl}
use Rattle.overlaying.proofs.Memory.{cut}
use Rattle.overlaying.proofs.parts.words_from.Goals as goal

pub returns : goal.returns
returns c = record { words = rw (cut c.args.start c.args.size); memory = refl }
