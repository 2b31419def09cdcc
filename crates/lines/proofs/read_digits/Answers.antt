-- `lines::read_digits` meets its contract: the answer for all digits is the answer for those from this one on, read after others
-- that gave `value`.
-- Assumes nothing.
use Rattle.std.proofs.Common.{◌≡◌, ◌+◌, ◌-◌, ◌*◌, true, get_or, sym, ap, ◌∙◌, arith}
use Rattle.lines.specs.Lines.{is_digit}
use Rattle.lines.specs.Found.{decimal_found}
use Rattle.lines.proofs.Digits.{digits_none_left, digit_wrong, digit_too_large, digit_read}
use Rattle.lines.proofs.read_digits.Goals as goal

pub returns-then-not-is_ascii_digit : goal.returns-then-not-is_ascii_digit
returns-then-not-is_ascii_digit c =
    sym (ap decimal_found (c.loop-digit.invariant.1 ∙ digit_wrong _ _ _ c.loop-digit-test.true (sym c.is_ascii_digit.ensures.value ∙ c.if-not-is_ascii_digit.true)))

pub returns-in_err-checked_mul : goal.returns-in_err-checked_mul
returns-in_err-checked_mul c =
    c.from_residual.ensures ∙ sym (ap decimal_found (c.loop-digit.invariant.1 ∙ digit_too_large _ _ _ c.loop-digit-test.true (omega (arith, c.in_err-checked_mul.ensures))))

pub returns-in_err-value : goal.returns-in_err-value
returns-in_err-value c =
    c.from_residual-in_err-value.ensures ∙ sym (ap decimal_found (c.loop-digit.invariant.1 ∙ digit_too_large _ _ _ c.loop-digit-test.true (omega (arith, c.in_err-value.ensures))))

pub loop-digit-preserved : goal.loop-digit-preserved
loop-digit-preserved c =
    let v : c.in_ok-value.value ≡ c.loop-digit.value * 10 + (get_or c.args.digits.now c.loop-digit.digit-index 0 - 48)
    = omega (arith, c.in_ok-value.ensures, c.in_ok-checked_mul.ensures) in
    let is : is_digit (get_or c.args.digits.now c.loop-digit.digit-index 0) ≡ true
    = sym c.is_ascii_digit.ensures.value ∙ c.if-not-is_ascii_digit.false in
    (omega (arith, c.in_ok-value.ensures), c.loop-digit.invariant.1 ∙ digit_read _ _ _ c.loop-digit-test.true v is)

pub returns : goal.returns
returns c = sym (ap decimal_found (c.loop-digit.invariant.1 ∙ digits_none_left _ _ _ c.loop-digit.invariant.0 c.loop-digit-test.false))
