-- `converting::put_item` meets its contract.
-- Assumes nothing.
use mathlib.Core.Path.{refl, sym, ◌∙◌}
use Rattle.listing.specs.Listing.{Takes}
use Rattle.rules.proofs.Words.Headers.{table-small}
use Rattle.rules.proofs.Calls.Meanings.{placing-told_by}
use Rattle.converting.proofs.Putting.{tag_hashed, put_nowhere, put_in_slot}
use Rattle.converting.proofs.put_item.Goals as goal

pub placing-p-requires : goal.placing-p-requires
placing-p-requires c = (c.requires.headed, c.hashes-x.ensures)

pub put_free-requires : goal.put_free-requires
put_free-requires c =
    let w = c.requires in
    (table-small _ _ w.headed.good, rw c.in-Free.is at c.placing-p.ensures.1, tag_hashed _ _ _ c.hashes-x.ensures)

pub put_by_move-requires : goal.put_by_move-requires
unfolding Takes
put_by_move-requires c = (
  c.requires,
  sym c.in-Move.is ∙ placing-told_by c.placing-p.ensures.0,
  (refl, rw c.in-Move.is at c.placing-p.ensures.1),
  tag_hashed _ _ _ c.hashes-x.ensures,
)

pub returns-in-Free : goal.returns-in-Free
returns-in-Free c = put_in_slot _ _ _ _ c.requires _ (placing-told_by c.placing-p.ensures.0) _ c.in-Free.is _ c.put_free.ensures

pub returns-in-Move : goal.returns-in-Move
returns-in-Move c = c.put_by_move.ensures

pub returns-in-Nowhere : goal.returns-in-Nowhere
returns-in-Nowhere c = put_nowhere _ _ _ _ c.requires _ (placing-told_by c.placing-p.ensures.0) c.in-Nowhere.in-Nowhere-own.keys3
