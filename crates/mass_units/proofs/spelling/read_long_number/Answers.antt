use Rattle.std.proofs.Common.{arith, ap, Some}
use Rattle.mass_units.proofs.Reading.{same_long_number}
use Rattle.mass_units.proofs.spelling.read_long_number.Goals as goal

pub returns-in-Some-clause-read_back : goal.returns-in-Some-clause-read_back
returns-in-Some-clause-read_back c =
    λ n small e. ap Some (same_long_number c.args.text.now c.in-Some.n c.in-Some.ensures.some n small e)

pub returns-in_default-clause-read_back : goal.returns-in_default-clause-read_back
returns-in_default-clause-read_back c =
    λ n small e. absurd (omega (arith, same_long_number c.args.text.now c.in-Some.n c.in-Some.ensures.some n small e))
