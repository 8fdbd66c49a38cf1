-- what is kept of each front of a prefix, and what a mass adds on a set of ranks
use Rattle.std.specs.Prelude.{◌≡◌, ℕ, ℤ, pos, ◌*ℤ◌, ◌≤ℤ◌, Bool, true, false, ◌||◌, List, Option, Some, None}
use Rattle.std.specs.List.{list_any}
use Rattle.hold_limits.specs.Layout.{Layout}
use Rattle.hold_limits.specs.Problem.{Problem}
use Rattle.hold_limits.specs.Placement.{hold_index, lateral_difference}
use Rattle.hold_limits.specs.Twins.{is_rising}
use Rattle.hold_limits.specs.Enumeration.{exclude}
use Rattle.hold_reach.specs.declared.span.Span.{Span}
use Rattle.hold_reach.specs.Rules.{is_used}
use Rattle.hold_partial.specs.declared.level.Level.{Level}
use Rattle.hold_partial.specs.Arrangement.{Ranked, at_rank}
use Rattle.position_set.specs.Sets.{Stands}

-- a container on the position, or on one that excludes it
abbrev pub is_blocked : Layout → List ℕ → ℕ → Bool
is_blocked hold prefix q = is_used prefix q || list_any (λ used. exclude hold used q) prefix

-- the positions that the prefix uses, the ranks that it blocks for the remaining containers, its hold index and its lateral
-- difference, and whether it is rising
pub record IsLevel (t : Problem) (ranks : List Ranked) (prefix : List ℕ) (level : Level) : Type 0 where
  pub used : Stands level.used (is_used prefix)
  pub blocked_ranks : Stands level.blocked_ranks (at_rank (is_blocked t.hold prefix) ranks)
  pub index : level.index.0 ≡ hold_index t prefix
  pub lateral : level.lateral ≡ lateral_difference t prefix
  pub rising : level.rising ≡ is_rising t prefix

-- the span goes from the mass times the least factor of the ranks that pass to that times the greatest, and there is none where no
-- rank passes
abbrev pub IsSpanOnRanks : (ℕ → Bool) → (ℕ → ℤ) → ℕ → Option Span → Type 0
IsSpanOnRanks passes factor mass None = (r : ℕ) → passes r ≡ false
IsSpanOnRanks passes factor mass (Some e) =
    (first : ℕ) × (last : ℕ) × (passes first ≡ true) × (passes last ≡ true)
    × ((r : ℕ) → passes r ≡ true → (factor first ≤ℤ factor r) × (factor r ≤ℤ factor last))
    × (e.low ≡ pos mass *ℤ factor first) × (e.high ≡ pos mass *ℤ factor last)
