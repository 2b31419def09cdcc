-- `running::take_byte` meets its contract.
-- Assumes nothing.
use Rattle.running.proofs.Bytes.{newline_taken, byte_held_lem}
use Rattle.running.proofs.take_byte.Goals as goal

pub returns-then-byte-eq10 : goal.returns-then-byte-eq10
returns-then-byte-eq10 c =
    newline_taken c.args.run _ _ _
    c.if-byte-eq10.true c.take_newline.ensures

pub returns : goal.returns
returns c = byte_held_lem c.args.run _ _ _ c.if-byte-eq10.false c.hold.ensures
