-- `scanning::items::item` meets its contract.
-- Assumes nothing.
use mathlib.Core.Path.{sym, ◌∙◌}
use Rattle.rules.proofs.Words.Headers.{header-state}
use Rattle.scanning.proofs.Meeting.{item-absent, item_itself, item_copied}
use Rattle.scanning.proofs.items.item.Goals as goal

pub returns-then-is_same : goal.returns-then-is_same
returns-then-is_same c =
    item_itself _ _ _ _ c.key_at-key.ensures c.lookup_by-end.ensures.0 c.in-Stands.is
    (sym c.is_same.ensures ∙ c.if-is_same.true)

pub copied-requires : goal.copied-requires
copied-requires c = header-state _ _ c.requires.0

pub returns-else-is_same : goal.returns-else-is_same
returns-else-is_same c =
    c.copied.ensures
    ∙ item_copied _ _ _ _ c.key_at-key.ensures c.lookup_by-end.ensures.0 c.in-Stands.is
    c.hashes-hash.ensures (sym c.is_same.ensures ∙ c.if-is_same.false)

pub returns-in-Absent : goal.returns-in-Absent
returns-in-Absent c = item-absent _ _ _ _ c.key_at-key.ensures c.lookup_by-end.ensures.0 c.in-Absent.is
