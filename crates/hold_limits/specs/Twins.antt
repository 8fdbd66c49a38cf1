-- interchangeable containers in a placement
use Rattle.std.specs.Prelude.{◌≡◌, ℕ, ◌<◌, Bool, not, ◌||◌, nat_lt, List, Some, AllPairs, slice_get}
use Rattle.std.specs.List.{position_or_len}
use Rattle.hold_parts.specs.declared.parts.Item.{Item}
use Rattle.hold_parts.specs.Twins.{AreTwins, are_twins}
use Rattle.hold_limits.specs.Problem.{Problem}
use Rattle.hold_limits.specs.BranchOrder.{ordered}
use Rattle.hold_limits.specs.Placement.{Placed, placed}
use Rattle.hold_limits.specs.Enumeration.{list_all_pairs}

-- the containers at the two ranks are placed, and they are twins
abbrev pub StandTwins : Problem → List ℕ → ℕ → ℕ → Type 0
StandTwins t prefix i j =
    (a b : Placed) × (slice_get (placed t prefix) i ≡ Some a) × (slice_get (placed t prefix) j ≡ Some b) × AreTwins a.0 b.0

-- of any two placed twins the later in branch order has the greater number
abbrev pub IsRising : Problem → List ℕ → Type 0
IsRising t prefix = AllPairs (λ (a b : Placed). AreTwins a.0 b.0 → a.1 < b.1) (placed t prefix)

-- the same, as a test
abbrev pub is_rising : Problem → List ℕ → Bool
is_rising t prefix = list_all_pairs (λ (a b : Placed). not (are_twins a.0 b.0) || nat_lt a.1 b.1) (placed t prefix)

-- the rank of the first twin of a container, which may be itself, in branch order
abbrev pub first_twin : Problem → Item → ℕ
first_twin t item = position_or_len (λ other. are_twins other item) (ordered t.items)
