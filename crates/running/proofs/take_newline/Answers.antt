-- `running::take_newline` meets its contract.
-- Assumes nothing.
use Rattle.std.proofs.Common.{◌≡◌, min, length, arith}
use Rattle.running.proofs.Bytes.{line_taken}
use Rattle.running.proofs.take_newline.Goals as goal

pub returns : goal.returns
returns c =
    let held : c.least-held.result ≡ min c.args.run.held (length c.args.line.now) = omega (arith, c.least-held.ensures, c.fits-line) in
    line_taken c.args.run _ _ held _ c.parse.ensures.answer c.take_line-turn.ensures
