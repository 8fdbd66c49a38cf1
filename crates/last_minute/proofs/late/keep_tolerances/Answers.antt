use Rattle.std.proofs.Common.{ap, arith}
use Rattle.std.proofs.lemmas.Int.{ints}
use Rattle.mass_units.specs.declared.Kg.{Kg}
use Rattle.mass_units.specs.declared.Ticks.{Ticks}
use Rattle.last_minute.proofs.late.keep_tolerances.Goals as goal

pub returns-then-mass-tolerance_mass-clause-refused : goal.returns-then-mass-tolerance_mass-clause-refused
returns-then-mass-tolerance_mass-clause-refused c =
    let tolerance = ap (λ (mass : Kg). mass.0) c.tolerance_mass.ensures.value in
    (omega (arith, ints, c.abs_diff-mass.ensures), omega (arith, tolerance, c.if-mass-tolerance_mass.true))

pub returns-then-index-tolerance_index-clause-refused : goal.returns-then-index-tolerance_index-clause-refused
returns-then-index-tolerance_index-clause-refused c =
    let mass_tolerance = ap (λ (mass : Kg). mass.0) c.tolerance_mass.ensures.value in
    let tolerance = ap (λ (ticks : Ticks). ticks.0) c.tolerance_index.ensures.value in (
      omega (arith, ints, c.abs_diff-mass.ensures, mass_tolerance, c.if-mass-tolerance_mass.false),
      c.index_difference-index.ensures,
      omega (arith, ints, tolerance, c.if-index-tolerance_index.true),
    )

pub returns-clause-mass : goal.returns-clause-mass
returns-clause-mass c =
    let tolerance = ap (λ (mass : Kg). mass.0) c.tolerance_mass.ensures.value in
    omega (arith, ints, c.abs_diff-mass.ensures, tolerance, c.if-mass-tolerance_mass.false)

pub returns-clause-index : goal.returns-clause-index
returns-clause-index c =
    let tolerance = ap (λ (ticks : Ticks). ticks.0) c.tolerance_index.ensures.value in
    omega (arith, ints, tolerance, c.index_difference-index.ensures, c.if-index-tolerance_index.false)
