-- what divides all that a choice's hold indices differ by
use Rattle.std.specs.Prelude.{◌↔◌, ℕ, ◌-ℤ◌, List, All}
use Rattle.std.specs.Int.{◌∣◌}
use Rattle.hold_limits.specs.Layout.{Layout}
use Rattle.hold_limits.specs.Placement.{placed_moment}
use Rattle.price_trees.specs.Prices.{Candidate}
use Rattle.price_trees.specs.Trees.{IsMultiple, first}

-- the moments of the container on its positions leave one remainder
abbrev pub LeaveOne : Layout → ℕ → Candidate → Type 0
LeaveOne hold divisor c = All (λ q. IsMultiple divisor (placed_moment hold (c.0, q) -ℤ placed_moment hold (c.0, first c.1))) c.1

-- the greatest number that divides all differences of the candidates' moments
abbrev pub IsCommonDivisor : Layout → List Candidate → ℕ → Type 0
IsCommonDivisor hold candidates g = (d : ℕ) → (d ∣ g) ↔ All (LeaveOne hold d) candidates
