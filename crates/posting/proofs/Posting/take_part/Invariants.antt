-- `posting::Posting::take_part` meets its contract: what is left of the part makes of the posting what the part made of it at first.
-- Assumes nothing.
use Rattle.std.proofs.Common.{◌≡◌, drop}
use Rattle.posting.specs.Posts.{after_bytes, post_of}
use Rattle.posting.proofs.Posting.take_part.Given as goal

abbrev pub invariant-loop-byte : goal.invariant-loop-byte
invariant-loop-byte l =
    after_bytes (post_of l.self l.room) (drop l.byte-index l.part)
    ≡ after_bytes (post_of l.initial.self l.initial.room) l.part
