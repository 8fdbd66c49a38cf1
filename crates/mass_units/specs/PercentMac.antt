-- The centre of gravity on the mean aerodynamic chord.
use Rattle.std.specs.Prelude.{ℤ, pos, ◌+ℤ◌, ◌-ℤ◌, ◌*ℤ◌}
use Rattle.mass_units.specs.declared.Kg.{Kg}
use Rattle.mass_units.specs.declared.Ticks.{Ticks}
use Rattle.mass_units.specs.declared.chord.Chord.{Chord}

-- the moment about the leading edge of the chord, in hundredths of a kilogram millimetre: what the index says of the
-- moment about the reference station, and the mass at the distance from the leading edge to that station
abbrev pub moment_behind_lemac : Ticks → Kg → Chord → ℤ
moment_behind_lemac index mass chord =
    ((index.0 -ℤ chord.k.0) *ℤ pos chord.c) +ℤ (pos 100 *ℤ ((chord.reference_mm -ℤ chord.lemac_mm) *ℤ pos mass.0))
