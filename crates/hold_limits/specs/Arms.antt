-- moments: mass times arm, whatever the arm is
use Rattle.std.specs.Prelude.{ℕ, ℤ, pos, ◌+ℤ◌, ◌*ℤ◌, List}
use Rattle.base_words.specs.Lists.{int_sum_by}
use Rattle.hold_parts.specs.declared.parts.Loose.{Loose}
use Rattle.hold_limits.specs.declared.moments.Arm.{Arm}
use Rattle.hold_limits.specs.declared.moments.Arm.TheVariants.{Influence, Side}
use Rattle.hold_limits.specs.Layout.{Layout}
use Rattle.hold_limits.specs.Lateral.{side_at}
use Rattle.hold_limits.specs.Problem.{Problem}
use Rattle.hold_limits.specs.Placement.{Placed, placed, influence_at}

-- the arm of a position: its influence, or its side
abbrev pub arm_at : Arm → Layout → ℕ → ℤ
arm_at Influence hold q = influence_at hold q
arm_at Side hold q = side_at hold q

-- how long an arm of a lawful hold can be
abbrev pub longest : Arm → ℕ
longest Influence = 100000
longest Side = 1

-- the moment of a container on its position, and of a loose load on its own
abbrev pub placed_by : (ℕ → ℤ) → Placed → ℤ
placed_by arm p = pos p.0.mass.0 *ℤ arm p.1

abbrev pub loose_by : (ℕ → ℤ) → Loose → ℤ
loose_by arm l = pos l.mass.0 *ℤ arm l.position

-- the moments of the placed containers and of the loose loads together
abbrev pub moment_by : (ℕ → ℤ) → Problem → List ℕ → ℤ
moment_by arm t prefix = int_sum_by (placed_by arm) (placed t prefix) +ℤ int_sum_by (loose_by arm) t.loose
