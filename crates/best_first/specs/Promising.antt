-- promising prefixes of a task: those at which every search by these bounds must look; and what the search finds
use Rattle.std.specs.Prelude.{ℕ, List}
use Rattle.hold_limits.specs.Problem.{Problem}
use Rattle.path_search.specs.declared.found.Found.{Found}
use Rattle.path_search.specs.Promising as any
use Rattle.best_first.specs.Bounds.{world_of}
pub use Rattle.path_search.specs.Promising.{AreMoreThan}

-- the prefix has a bound that, with its numbers, is at most the key of the best path. Where no path is admissible, every prefix
-- with a bound is promising
abbrev pub IsPromising : Problem → (List ℕ → ℕ → Type 0) → List ℕ → Type 0
IsPromising t HasBound = any.IsPromising (world_of t HasBound)

-- a promising prefix that leaves containers
abbrev pub IsPromisingAndIncomplete : Problem → (List ℕ → ℕ → Type 0) → List ℕ → Type 0
IsPromisingAndIncomplete t HasBound = any.IsPromisingAndIncomplete (world_of t HasBound)

-- the prefix is a promising one with a number more
abbrev pub HasPromisingParent : Problem → (List ℕ → ℕ → Type 0) → List ℕ → Type 0
HasPromisingParent t HasBound = any.HasPromisingParent (world_of t HasBound)

-- a viable prefix that leaves containers and is not promising, though without its last number it is, if it has one
abbrev pub IsLeft : Problem → (List ℕ → ℕ → Type 0) → List ℕ → Type 0
IsLeft t HasBound = any.IsLeft (world_of t HasBound)

-- the best path is claimed, or none where no path is admissible; the cuts are the prefixes that are left, in path order; and the
-- promising prefixes that leave containers are counted
abbrev pub IsFoundFor : Problem → (List ℕ → ℕ → Type 0) → Found → Type 0
IsFoundFor t HasBound = any.IsFoundFor (world_of t HasBound)
