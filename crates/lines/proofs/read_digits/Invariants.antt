-- `lines::read_digits` meets its contract: the answer for all digits is the answer for those from this one on, read after others
-- that gave `value`.
-- Assumes nothing.
use Rattle.std.proofs.Common.{◌≡◌, ◌^◌, ◌<◌, drop}
use Rattle.lines.specs.Found.{digits_from}
use Rattle.lines.proofs.read_digits.Given as goal

abbrev pub invariant-loop-digit : goal.invariant-loop-digit
invariant-loop-digit l = (l.value < 2 ^ 64) × (digits_from 0 l.digits ≡ digits_from l.value (drop l.digit-index l.digits))
