-- sets of numbers below 64
use Rattle.std.specs.Prelude.{◌≡◌, ℕ, Bool, ◌==◌, List}
use Rattle.std.specs.Int.{bit_at}
use Rattle.std.specs.List.{filter, range_with_len}
use Rattle.position_set.specs.declared.set.PositionSet.{PositionSet}

-- the number is in the set
unfoldable pub has : PositionSet → ℕ → Bool
has set q = bit_at set.0 q == 1

-- the set has exactly the numbers that pass the test
abbrev pub Stands : PositionSet → (ℕ → Bool) → Type 0
Stands set test = (q : ℕ) → has set q ≡ test q

-- the numbers of the set, rising
unfoldable pub members : PositionSet → List ℕ
members set = filter (has set) (range_with_len 0 64)
