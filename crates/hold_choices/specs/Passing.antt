-- what a pass over the containers takes from those that it comes to
use Rattle.std.specs.Prelude.{◌≡◌, ℕ, ◌+◌, ◌<◌, nat_lt, Bool, not, ◌&&◌, ◌||◌, ◌==◌, List, drop, slice_get, slice_index_or, Some}
use Rattle.std.specs.List.{list_all, list_any}
use Rattle.hold_limits.specs.Problem.{Problem}
use Rattle.position_set.specs.declared.set.PositionSet.{PositionSet}
use Rattle.position_set.specs.Sets.{has}
use Rattle.price_trees.specs.Prices.{Candidate}
use Rattle.price_trees.specs.Narrowing.{leaves, leaves_earlier}
use Rattle.hold_choices.specs.declared.taken.Taken.{Taken}
use Rattle.hold_limits.specs.Twins.{first_twin}

-- an earlier container leaves the position to one of the class
abbrev pub leaves_class_later : Problem → ℕ → ℕ → Candidate → Bool
leaves_class_later t class p earlier = leaves t.hold earlier.1 p && (not (first_twin t earlier.0 == class) || list_any (λ q. nat_lt q p) earlier.1)

-- a later container leaves the position to one of the class
abbrev pub leaves_class_earlier : Problem → ℕ → ℕ → Candidate → Bool
leaves_class_earlier t class p later = leaves t.hold later.1 p && (not (first_twin t later.0 == class) || list_any (λ q. nat_lt p q) later.1)

-- a position is taken from the containers of a class
abbrev pub is_taken : Taken → ℕ → ℕ → Bool
is_taken taken class p = has taken.from_all p || has (slice_index_or taken.from_twins class record { 0 = 0 }) p

-- exactly what one of the containers does not leave is taken
abbrev pub IsTakenBy : (ℕ → ℕ → Candidate → Bool) → List Candidate → Taken → Type 0
IsTakenBy leave containers taken = (class p : ℕ) → class < 60 → p < 64 → is_taken taken class p ≡ not (list_all (leave class p) containers)

-- each set has exactly what later containers do not leave to the one of its rank
abbrev pub AreTakenByLater : Problem → List Candidate → List PositionSet → Type 0
AreTakenByLater t containers taken = (rank p : ℕ) (c : Candidate) (d : PositionSet) → slice_get containers rank ≡ Some c → p < 64
    → has (slice_index_or taken rank d) p ≡ not (list_all (leaves_earlier t.hold c.0 p) (drop (rank + 1) containers))
