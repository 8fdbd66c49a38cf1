-- Straight lines over masses. Both sides are multiplied by the line's width, so nothing is rounded.
use Rattle.std.specs.Prelude.{ℕ, ◌-◌, ◌≤◌, ℤ, pos, ◌+ℤ◌, ◌-ℤ◌, ◌*ℤ◌, ◌≤ℤ◌, ◌<ℤ◌}
use Rattle.mass_units.specs.declared.line.Line.{Line}

-- the mass lies between the ends of the line, or at one of them
abbrev pub Spans : Line → ℕ → Type 0
Spans line mass = (line.from.0 ≤ mass) × (mass ≤ line.to.0)

-- at that mass the index lies on the line or aft of it
abbrev pub IsOnOrAft : Line → ℕ → ℤ → Type 0
IsOnOrAft line mass index =
    ((line.at_to.0 -ℤ line.at_from.0) *ℤ pos (mass - line.from.0)) ≤ℤ ((index -ℤ line.at_from.0) *ℤ pos (line.to.0 - line.from.0))

-- at that mass the index lies on the line or forward of it
abbrev pub IsOnOrForward : Line → ℕ → ℤ → Type 0
IsOnOrForward line mass index =
    ((index -ℤ line.at_from.0) *ℤ pos (line.to.0 - line.from.0)) ≤ℤ ((line.at_to.0 -ℤ line.at_from.0) *ℤ pos (mass - line.from.0))

-- the line's index at that mass, times the line's width
abbrev pub scaled_index : Line → ℕ → ℤ
scaled_index line mass =
    (line.at_from.0 *ℤ pos (line.to.0 - line.from.0)) +ℤ ((line.at_to.0 -ℤ line.at_from.0) *ℤ pos (mass - line.from.0))

-- n is the line's index at that mass, rounded down
abbrev pub IsFloor : Line → ℕ → ℤ → Type 0
IsFloor line mass n =
    ((n *ℤ pos (line.to.0 - line.from.0)) ≤ℤ scaled_index line mass)
    × (scaled_index line mass <ℤ ((n +ℤ pos 1) *ℤ pos (line.to.0 - line.from.0)))
