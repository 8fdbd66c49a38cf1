-- the centre of gravity at a corner of an envelope
use Rattle.std.specs.Prelude.{ℕ, suc, ◌+◌, ◌*◌, ◌/◌, ◌==◌, ℤ, pos, negsuc, neg_ℤ, ◌*ℤ◌, if◌then◌else◌, Option, Some, None}
use Rattle.mass_units.specs.declared.chord.Chord.{Chord}
use Rattle.mass_units.specs.PercentMac.{moment_behind_lemac}
use Rattle.envelope.specs.declared.corner.Corner.{Corner}

-- n / d to the nearest whole number, a half away from zero
unfoldable pub nearest : ℤ → ℕ → ℤ
nearest (pos n) d = pos ((2 * n + d) / (2 * d))
nearest (negsuc n) d = neg_ℤ (pos ((2 * suc n + d) / (2 * d)))

-- where the centre of gravity lies at the corner, in hundredths of a percent of the mean aerodynamic chord: its distance behind the
-- leading edge, which is the moment about that edge divided by the mass, divided by the length of the chord; no mass has no centre
abbrev pub centre_at : Chord → Corner → Option ℤ
centre_at chord corner =
    if corner.mass.0 == 0 then None
    else Some (nearest (pos 100 *ℤ moment_behind_lemac corner.index corner.mass chord) (corner.mass.0 * chord.mac_mm))
