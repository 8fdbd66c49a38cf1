-- what a choice is narrowed to, however many passes that takes: the greatest choice within it that has a position for
-- each container, and from which a pass takes nothing
use Rattle.std.specs.Prelude.{◌≡◌, ℕ, ◌≤◌, Bool, List, length}
use Rattle.std.specs.List.{AllZip, filter}
use Rattle.hold_limits.specs.Problem.{Problem}
use Rattle.price_trees.specs.Prices.{Choice}
use Rattle.price_trees.specs.Narrowing.{HasEmpty, narrowed_once}

-- the choice has no more sets than the task has containers
abbrev pub IsOfTask : Problem → Choice → Type 0
IsOfTask t choice = length choice ≤ length t.items

-- the positions of the whole set that pass some test
pub record IsPart (part whole : List ℕ) : Type 0 where
  pub test : ℕ → Bool
  pub is : part ≡ filter test whole

-- each container has a part of its positions
abbrev pub IsWithin : Choice → Choice → Type 0
IsWithin part whole = AllZip IsPart part whole

-- the other is within the choice and has a position for each container, and a pass takes nothing from it
pub record IsStableWithin (t : Problem) (choice other : Choice) : Type 0 where
  pub within : IsWithin other choice
  pub full : HasEmpty other → ⊥
  pub stable : narrowed_once t other ≡ other

-- this is such a choice, and each of them is within it
pub record IsGreatest (t : Problem) (choice greatest : Choice) : Type 0 where
  pub stable : IsStableWithin t choice greatest
  pub above : (other : Choice) → IsStableWithin t choice other → IsWithin other greatest
