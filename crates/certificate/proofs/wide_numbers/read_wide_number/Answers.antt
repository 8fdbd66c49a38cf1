use Rattle.std.proofs.Common.{rules}
use Rattle.mass_units.proofs.SpellingLemmas.{HasPlainFront, plain_from_number}
use Rattle.certificate.proofs.WideNumbers.{wide_found}
use Rattle.certificate.proofs.wide_numbers.read_wide_number.Goals as goal

pub returns-then-not-has_plain_front-clause-none : goal.returns-then-not-has_plain_front-clause-none
returns-then-not-has_plain_front-clause-none c =
    λ n small e. let never = (rw c.if-not-has_plain_front.true at c.has_plain_front.ensures).1 (plain_from_number c.args.text.now n e) in search rules

pub returns-clause-some : goal.returns-clause-some
returns-clause-some c =
    let plain : HasPlainFront c.args.text.now = search rules in
    wide_found c.args.text.now c.read_digits.result plain c.read_digits.ensures.some
