use Rattle.std.proofs.Common.{arith, rules, tests, get_or}
use Rattle.std.specs.Int.{IsInRange}
use Rattle.std.proofs.lemmas.Str.{digit_value_digit}
use Rattle.std.proofs.lemmas.Str.Parse.{digit_at}
use Rattle.std.proofs.lemmas.Int.Digits.{digits_value_more, digits_more}
use Rattle.mass_units.proofs.SpellingLemmas.{digits_from_number}
use Rattle.text_lines.proofs.NameLemmas.{none_if}
use Rattle.certificate.proofs.WideNumbers.{too_wide}
use Rattle.certificate.proofs.wide_numbers.read_digits.Goals as goal

pub returns-then-not-is_ascii_digit-clause-none : goal.returns-then-not-is_ascii_digit-clause-none
returns-then-not-is_ascii_digit-clause-none c =
    λ n small e.
    let range = digit_at c.args.text.now c.loop-byte.byte-index (digits_from_number c.args.text.now n e) c.loop-byte-test.true in
    let no_digit = rw c.if-not-is_ascii_digit.true at c.is_ascii_digit.ensures.cases in
    grind (arith, no_digit, range)

pub returns-in_err-checked_mul-clause-none : goal.returns-in_err-checked_mul-clause-none
returns-in_err-checked_mul-clause-none c =
    let text = c.args.text.now in
    let i = c.loop-byte.byte-index in
    let value = c.loop-byte.invariant.value in
    let over = c.in_err-checked_mul.ensures in
    none_if _ _ (too_wide text i c.loop-byte-test.true (omega (arith, over, value)))

pub returns-in_err-value-clause-none : goal.returns-in_err-value-clause-none
returns-in_err-value-clause-none c =
    let text = c.args.text.now in
    let i = c.loop-byte.byte-index in
    let range : IsInRange 48 57 (get_or text i 0) = search (rules, tests) in
    let digit = digit_value_digit (get_or text i 0) range in
    let value = c.loop-byte.invariant.value in
    let ten = c.in_ok-checked_mul.ensures in
    let over = c.in_err-value.ensures in
    none_if _ _ (too_wide text i c.loop-byte-test.true (omega (arith, over, ten, value, digit)))

pub loop-byte-preserved : goal.loop-byte-preserved
loop-byte-preserved c =
    let text = c.args.text.now in
    let i = c.loop-byte.byte-index in
    let range : IsInRange 48 57 (get_or text i 0) = search (rules, tests) in
    let digit = digit_value_digit (get_or text i 0) range in
    let value = c.loop-byte.invariant.value in
    let ten = c.in_ok-checked_mul.ensures in
    let sum = c.in_ok-value.ensures in
    let more = digits_value_more 10 text i c.loop-byte-test.true in
    record {
      digits = digits_more 10 text i c.loop-byte-test.true c.loop-byte.invariant.digits (omega arith);
      value = omega (arith, sum, ten, value, digit, more);
    }
