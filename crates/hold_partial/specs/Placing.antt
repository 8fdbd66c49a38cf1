-- a placement of the first containers of a task, as contracts see it
use Rattle.std.specs.Prelude.{ℕ, List}
use Rattle.hold_limits.specs.Problem.{Problem}

-- a task, and a prefix of it
pub record Placing : Type 0 where
  pub task : Problem
  pub prefix : List ℕ

abbrev pub placing_of : Problem → List ℕ → Placing
placing_of t path = record { task = t; prefix = path }
