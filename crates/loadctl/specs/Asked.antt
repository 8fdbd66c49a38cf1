-- what the arguments ask for
use Rattle.std.specs.Prelude.{◌≡◌, ℕ, List}
use Rattle.plan_commands.specs.Arguments.{IsCommand, arguments_of}
use Rattle.plan_commands.specs.Commands.{job_of}
use Rattle.loadctl.specs.declared.asked.AskedOne.{AskedOne}
use Rattle.loadctl.specs.declared.asked.AskedOne.TheVariants as one
use Rattle.loadctl.specs.declared.asked.Asked.{Asked}
use Rattle.loadctl.specs.declared.asked.Asked.TheVariants as asked
use Rattle.loadctl.specs.Desk.{AskForDesk}
use Rattle.loadctl.specs.Serve.{AskForServe}
use Rattle.loadctl.specs.Needs.{AskForNothing}

-- the arguments ask for an office of one desk, whose rows are kept in this store
pub record AskForDeskOver (arguments : List (List ℕ)) (store : List ℕ) (names : List (List ℕ)) : Type 0 where
  pub desk : AskForDesk arguments names
  pub same : desk.store ≡ store

-- they ask for an office of several desks, whose rows are kept in this store
pub record AskForServeOver (arguments : List (List ℕ)) (desks port : ℕ) (store : List ℕ) (names : List (List ℕ)) : Type 0 where
  pub serve : AskForServe arguments desks port names
  pub same : serve.store ≡ store

-- they ask for this, and for no door
abbrev pub AskOne : List (List ℕ) → AskedOne → Type 0
AskOne arguments (one.Task command) = IsCommand arguments (job_of command)
AskOne arguments (one.Desk desk) = AskForDeskOver arguments desk.store.now (arguments_of desk.fleet.now)
AskOne arguments one.Nothing = AskForNothing arguments

-- they ask for this
abbrev pub Ask : List (List ℕ) → Asked → Type 0
Ask arguments (asked.One one) = AskOne arguments one
Ask arguments (asked.Serve serve) = AskForServeOver arguments serve.desks serve.port serve.store.now (arguments_of serve.fleet.now)
