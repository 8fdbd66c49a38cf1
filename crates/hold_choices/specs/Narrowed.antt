-- a choice from which passes have taken all that they take
use Rattle.std.specs.Prelude.{◌≡◌, ◌⊎◌, ℕ, zero, suc, ℤ}
use Rattle.hold_limits.specs.Problem.{Problem}
use Rattle.price_trees.specs.Prices.{Choice}
use Rattle.price_trees.specs.Narrowing.{Ticks, HasEmpty, narrowed_once}

-- the choice after so many passes, each of which takes the positions that another container does not leave
abbrev pub narrowed_times : ℕ → Problem → Choice → Choice
narrowed_times zero t choice = choice
narrowed_times (suc n) t choice = narrowed_times n t (narrowed_once t choice)

-- the result is what one pass or more leave of the choice; one more would take nothing, or a container has no position left
pub record IsNarrowed (t : Problem) (choice result : Choice) : Type 0 where
  pub again : ℕ
  pub left : result ≡ narrowed_times (suc again) t choice
  pub ended : HasEmpty result ⊎ (narrowed_once t result ≡ result)

-- the ticks from low to high
abbrev pub ticks_between : ℤ → ℤ → Ticks
ticks_between low high = record { low = low; high = high }
