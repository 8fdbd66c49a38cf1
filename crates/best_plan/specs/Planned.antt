-- a task with a path, as contracts see them
use Rattle.std.specs.Prelude.{ℕ, List}
use Rattle.hold_limits.specs.Problem.{Problem}

pub record Planned : Type 0 where
  pub task : Problem
  pub path : List ℕ

abbrev pub planned : Problem → List ℕ → Planned
planned t path = record { task = t; path = path }
