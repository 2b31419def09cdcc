-- `lines::read_decimal` meets its contract: where no zero stands before other digits, the decimal is the digits.
-- Assumes nothing.
use Rattle.std.proofs.Common.{◌≡◌, sym, ap, ◌∙◌, arith}
use Rattle.lines.specs.Lines.{decimal_of}
use Rattle.lines.specs.Found.{digits_from, decimal_found}
use Rattle.lines.proofs.Digits.{nothing_there, zero_before-others, one_digit, no_zero_before}
use Rattle.lines.proofs.read_decimal.Goals as goal
use Rattle.lines.proofs.read_decimal.Goals.{else-first-eq48-via-then-first-eq48+else-digits-gt1, else-first-eq48-via-else-first-eq48}

pub returns-in_default : goal.returns-in_default
returns-in_default c = sym (ap decimal_found (nothing_there _ c.in_default.len_below))

pub returns-then-digits-gt1 : goal.returns-then-digits-gt1
returns-then-digits-gt1 c = sym (ap decimal_found (zero_before-others _ (omega arith) c.if-first-eq48.true))

pub returns : goal.returns
returns c =
    let ds = c.args.digits.now in
    let e : decimal_of ds ≡ digits_from 0 ds =
    elim c.else-first-eq48.branch [
      | else-first-eq48-via-then-first-eq48+else-digits-gt1 w ↦ one_digit ds c.in-len1-up.len_at_least (omega arith)
      | else-first-eq48-via-else-first-eq48 w ↦ no_zero_before ds c.in-len1-up.len_at_least w.if-first-eq48.false
    ] in
    c.read_digits.ensures ∙ sym (ap decimal_found e)
