-- what remainders of hold indices say of the positions of one container
use Rattle.std.specs.Prelude.{◌≡◌, ◌≢◌, ℕ, ◌<◌, ℤ, ◌-ℤ◌, List, length, slice_index, All, Any}
use Rattle.std.specs.Int.{◌∣◌}
use Rattle.price_trees.specs.Narrowing.{Ticks, IsIn}
use Rattle.price_trees.specs.Trees.{IsMultiple}
use Rattle.finder_remainders.specs.declared.spots.Spot.{Spot}

-- by the divisor, the hold indices of the spots leave the remainder of this one
abbrev pub LeaveThatOf : ℕ → ℤ → List Spot → Type 0
LeaveThatOf divisor index spots = All (λ (s : Spot). IsMultiple divisor (s.index -ℤ index)) spots

-- a number divides all of these but the one at a rank
abbrev pub DivideAllBut : ℕ → ℕ → List ℕ → Type 0
DivideAllBut d rank divisors = (other : ℕ) → other < length divisors → other ≢ rank → d ∣ slice_index divisors other

-- by the divisor, some tick leaves the remainder of the index
pub record IsAllowed (ticks : Ticks) (divisor : ℕ) (index : ℤ) : Type 0 where
  pub tick : ℤ
  pub inside : IsIn ticks tick
  pub same : IsMultiple divisor (tick -ℤ index)

-- one of the spots has this position, and a hold index of which a fact holds
abbrev pub IsMetBy : (ℤ → Type 0) → List Spot → ℕ → Type 0
IsMetBy holds spots position = Any (λ (s : Spot). (s.position ≡ position) × holds s.index) spots
