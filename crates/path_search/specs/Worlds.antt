-- what a best-first search can go through: the prefixes of paths, some of which are viable, and what is asked of them
use Rattle.std.specs.Prelude.{◌≡◌, ◌↔◌, ℕ, ◌<◌, ◌≤◌, List, [], ◌∷◌, ◌++◌, length}
use Rattle.hold_limits.specs.Placement.{Key, IsAtMost}

-- prefixes are lists of numbers, some of which are viable, and paths are lists of one length, some of which are admissible
pub record World : Type 1 where
  -- how many numbers a path has, one for each container, and the number that those of viable prefixes are below
  pub count : ℕ
  pub positions : ℕ
  -- the prefixes that are worth a look, the paths that are sought, and the best one
  pub IsViable : List ℕ → Type 0
  pub IsAdmissible : List ℕ → Type 0
  pub IsBest : List ℕ → Type 0
  -- how far from the ideal a path is, in ticks, and how near the paths that begin with a prefix can come
  pub distance : List ℕ → ℕ
  pub HasBound : List ℕ → ℕ → Type 0

-- a distance and a path, by which paths are compared
abbrev pub key_in : World → List ℕ → Key
key_in w path = (w.distance path, path)

-- the prefix has a number for some containers, but not for all
abbrev pub IsIncompleteIn : World → List ℕ → Type 0
IsIncompleteIn w prefix = length prefix < w.count

-- no path is admissible
abbrev pub HasNone : World → Type 0
HasNone w = (path : List ℕ) → w.IsAdmissible path → ⊥

-- an admissible path, and no admissible path has a smaller key
pub record IsBestIn (w : World) (path : List ℕ) : Type 0 where
  pub admissible : w.IsAdmissible path
  pub least : (other : List ℕ) → w.IsAdmissible other → IsAtMost (key_in w path) (key_in w other)

-- What is asked of a world, and of the ticks with which its prefixes wait. So a search finds the best path: each front of it has a
-- bound, since the path itself has one, and none is above its distance.
pub record IsSearchable (w : World) (MayWait : List ℕ → ℕ → Type 0) : Type 0 where
  -- a viable prefix is no longer than a path, and its last number is below the limit
  pub short : (prefix : List ℕ) → w.IsViable prefix → length prefix ≤ w.count
  pub within : (prefix : List ℕ) (q : ℕ) → w.IsViable (prefix ++ q ∷ []) → q < w.positions
  -- a path with a bound is admissible
  pub admissible : (path : List ℕ) (b : ℕ) → w.HasBound path b → length path ≡ w.count → w.IsAdmissible path
  -- the best path is an admissible one with the least key, its distance is its bound, and there is one where any path is admissible
  pub best : (path : List ℕ) → w.IsBest path ↔ IsBestIn w path
  pub best_bound : (path : List ℕ) → w.IsBest path → w.HasBound path (w.distance path)
  pub best_whole : (path : List ℕ) → w.IsBest path → length path ≡ w.count
  pub best_exists : (path : List ℕ) → w.IsAdmissible path → (best : List ℕ) × w.IsBest best
  -- a prefix has one bound at most, and only a viable prefix has one
  pub one : (prefix : List ℕ) (a b : ℕ) → w.HasBound prefix a → w.HasBound prefix b → a ≡ b
  pub viable : (prefix : List ℕ) (b : ℕ) → w.HasBound prefix b → w.IsViable prefix
  -- a prefix with a bound has one without its last number too, which is no greater
  pub narrows : (prefix : List ℕ) (q b : ℕ) → w.HasBound (prefix ++ q ∷ []) b → (a : ℕ) × w.HasBound prefix a × (a ≤ b)
  -- the bound of a path is its distance
  pub complete : (path : List ℕ) (b : ℕ) → w.HasBound path b → length path ≡ w.count → b ≡ w.distance path
  -- a prefix that waits is viable, and waits with no more ticks than its bound, if it has one
  pub waiting : (prefix : List ℕ) (waited : ℕ) → MayWait prefix waited → w.IsViable prefix
  pub below : (prefix : List ℕ) (waited b : ℕ) → MayWait prefix waited → w.HasBound prefix b → waited ≤ b
