-- `posting::Posting::take_part` meets its contract.
-- Assumes nothing.
use Rattle.std.proofs.Common.{sym, ap, ◌∙◌, ◌+◌, drop}
use Rattle.posting.specs.Posts.{after_bytes}
use Rattle.posting.proofs.Taking.{one_taken, all_taken}
use Rattle.posting.proofs.Posting.take_part.Goals as goal

pub loop-byte-preserved : goal.loop-byte-preserved
loop-byte-preserved c =
    ap (λ x. after_bytes x (drop (c.loop-byte.byte-index + 1) c.args.part.now)) c.take_byte.ensures
    ∙ sym (one_taken _ c.args.part.now c.loop-byte.byte-index c.loop-byte-test.true) ∙ c.loop-byte.invariant

pub returns : goal.returns
returns c = sym (all_taken _ c.args.part.now c.loop-byte.byte-index c.loop-byte-test.false) ∙ c.loop-byte.invariant
