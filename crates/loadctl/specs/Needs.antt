-- what the arguments name that is made before a run
use Rattle.std.specs.Prelude.{◌≡◌, ℕ, ◌+◌, ◌≤◌, List, Option, IfSome, IfNone, IsSomeAnd}
use Rattle.std.specs.List.{slice_get}
use Rattle.plan_commands.specs.Arguments.{AreInvalid}
use Rattle.loadctl.specs.Desk.{AskForDesk}
use Rattle.loadctl.specs.Serve.{ports_end, AskForServe, AskForNoServe, KeepIn}

-- the arguments are invalid: they ask neither for a command about a task, a load or a flight in transit nor for an office
pub record AskForNothing (arguments : List (List ℕ)) : Type 0 where
  pub no_command : AreInvalid arguments
  pub no_desk : (names : List (List ℕ)) → AskForDesk arguments names → ⊥
  pub no_desks : AskForNoServe arguments

-- a run with these arguments needs so many doors, at ports from this one on, and for its rows the file whose name is the argument at
-- this place, or none
pub record AreNeeded (arguments : List (List ℕ)) (doors port : ℕ) (store : Option ℕ) : Type 0 where
  pub desks : (n p : ℕ) (names : List (List ℕ)) → AskForServe arguments n p names → (doors ≡ n) × (port ≡ p)
  pub no_desks : AskForNoServe arguments → (doors ≡ 0) × (port ≡ 0)
  pub last : port + doors ≤ ports_end
  pub some : IfSome store (λ place. IsSomeAnd (slice_get arguments place) (KeepIn arguments))
  pub none : IfNone store ((file : List ℕ) → KeepIn arguments file → ⊥)
