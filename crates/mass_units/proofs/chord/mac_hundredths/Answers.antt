use Rattle.std.proofs.Common.{arith, rules, ◌*ℤ◌, pos, FitsSigned}
use Rattle.std.specs.Int.{w128}
use Rattle.std.proofs.lemmas.Int.{to_z-of_z, fits_signed_from_abs, unsigned_abs-mul}
use Rattle.mass_units.proofs.chord.mac_hundredths.Goals as goal

pub returns : goal.returns
returns c =
    let moment = to_z-of_z w128 c.moment.result (search rules) in
    let fits : FitsSigned w128 (pos 100 *ℤ c.moment.result) = fits_signed_from_abs w128 (pos 100 *ℤ c.moment.result) (omega (arith, unsigned_abs-mul (pos 100) c.moment.result)) in
    let hundredfold = to_z-of_z w128 (pos 100 *ℤ c.moment.result) fits in
    let quotient = to_z-of_z w128 c.rounded.result (search rules) in
    rw quotient (rw (moment, hundredfold, c.moment.ensures.value, c.from.ensures, c.from-2.ensures) at c.rounded.ensures)
