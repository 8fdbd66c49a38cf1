use Rattle.std.proofs.Common.{arith, sym, ◌∙◌, ◌/◌, ◌%◌}
use Rattle.mass_units.specs.Spelling.{five_digits}
use Rattle.mass_units.proofs.Reading.{units_read}
use Rattle.mass_units.proofs.SpellingLemmas.{parts_of_units, front_of_units, rest_of_units, decimals_of_units}
use Rattle.mass_units.proofs.spelling.read_units.Goals as goal

pub returns-in_err-point-clause-none : goal.returns-in_err-point-clause-none
returns-in_err-point-clause-none c =
    rw c.from_residual.ensures (λ n e. c.in_err-point.ensures (omega (arith, (parts_of_units c.args.text.now n e).long)))

pub returns-in_err-whole-clause-none : goal.returns-in_err-whole-clause-none
returns-in_err-whole-clause-none c =
    rw c.from_residual-in_err-whole.ensures (λ n e. c.in_err-whole.ensures.none (n / 100000) (c.split_at.ensures.front ∙ front_of_units c.args.text.now n c.in_ok-point.point (omega (arith, c.in_ok-point.ensures)) e))

pub returns-in_err-after_mark-clause-none : goal.returns-in_err-after_mark-clause-none
returns-in_err-after_mark-clause-none c =
    rw c.from_residual-in_err-after_mark.ensures (λ n e. c.in_err-after_mark.ensures.none (five_digits (n % 100000)) (c.split_at.ensures.back ∙ rest_of_units c.args.text.now n c.in_ok-point.point (omega (arith, c.in_ok-point.ensures)) e))

pub returns-in_err-decimals-clause-none : goal.returns-in_err-decimals-clause-none
returns-in_err-decimals-clause-none c =
    rw c.from_residual-in_err-decimals.ensures (λ n e. c.in_err-decimals.ensures.none (decimals_of_units c.args.text.now n c.in_ok-point.point c.in_ok-after_mark.field-0.now (omega (arith, c.in_ok-point.ensures)) (sym c.split_at.ensures.back ∙ c.in_ok-after_mark.ensures.some) e))

pub returns-clause-some : goal.returns-clause-some
returns-clause-some c =
    units_read c.args.text.now c.split_at.result.0.now c.in_ok-after_mark.field-0.now c.in_ok-point.point c.in_ok-whole.whole c.in_ok-decimals.decimals (omega (arith, c.in_ok-point.ensures)) c.split_at.ensures.front (sym c.split_at.ensures.back ∙ c.in_ok-after_mark.ensures.some) c.in_ok-whole.ensures.some c.in_ok-decimals.ensures.some c.saturating_add.result (omega arith)
