-- `running::hold` meets its contract.
-- Assumes nothing.
use borrow.Author.Tests.{lt-ltb, le-ltb}
use Rattle.running.proofs.hold.Goals as goal

pub returns-then-held-lt-LINE_ROOM : goal.returns-then-held-lt-LINE_ROOM
returns-then-held-lt-LINE_ROOM c = rw (lt-ltb _ _ c.if-held-lt-LINE_ROOM.true)

pub returns : goal.returns
returns c = rw (le-ltb _ _ c.if-held-lt-LINE_ROOM.false)
