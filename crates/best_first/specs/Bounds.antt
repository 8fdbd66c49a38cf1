-- bounds for the paths that begin with a prefix
use Rattle.std.specs.Prelude.{◌≡◌, ℕ, ◌≤◌, List, [], ◌∷◌, ◌++◌, Some, length}
use Rattle.hold_limits.specs.Problem.{Problem}
use Rattle.hold_limits.specs.Placement.{IsAdmissible, IsBest, distance}
use Rattle.hold_reach.specs.Reach.{IsViable, bound}
use Rattle.path_search.specs.Worlds.{World}

-- a viable prefix with the bound that its reach gives
abbrev pub HasReachBound : Problem → List ℕ → ℕ → Type 0
HasReachBound t prefix b = IsViable t prefix × (bound t prefix ≡ Some b)

-- What is asked of bounds for the prefixes of a task, in ticks. A prefix that has none is not worth a look. So a search by them
-- finds the best path: each front of it has a bound, since the path itself has one, and none is above its distance.
pub record AreBounds (t : Problem) (HasBound MayWait : List ℕ → ℕ → Type 0) : Type 0 where
  -- a prefix has one bound at most, and only a viable prefix has one
  pub one : (prefix : List ℕ) (a b : ℕ) → HasBound prefix a → HasBound prefix b → a ≡ b
  pub viable : (prefix : List ℕ) (b : ℕ) → HasBound prefix b → IsViable t prefix
  -- a prefix with a bound has one without its last number too, which is no greater
  pub narrows : (prefix : List ℕ) (q b : ℕ) → HasBound (prefix ++ q ∷ []) b → (a : ℕ) × HasBound prefix a × (a ≤ b)
  -- the bound of a viable path that leaves no container is its distance
  pub complete : (path : List ℕ) → IsViable t path → length path ≡ length t.items → HasBound path (distance t path)
  -- a prefix that waits is viable, and waits with no more ticks than its bound, if it has one; it may wait with its reach bound
  pub waiting : (prefix : List ℕ) (waited : ℕ) → MayWait prefix waited → IsViable t prefix
  pub below : (prefix : List ℕ) (waited b : ℕ) → MayWait prefix waited → HasBound prefix b → waited ≤ b
  pub reach : (prefix : List ℕ) (b : ℕ) → HasReachBound t prefix b → MayWait prefix b

-- the prefixes and the paths of a task, with these bounds
abbrev pub world_of : Problem → (List ℕ → ℕ → Type 0) → World
world_of t HasBound = record {
  count = length t.items;
  positions = length t.hold.positions;
  IsViable = IsViable t;
  IsAdmissible = IsAdmissible t;
  IsBest = IsBest t;
  distance = distance t;
  HasBound = HasBound;
}
