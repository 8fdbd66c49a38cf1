-- The command that arguments are.
use Rattle.std.proofs.Common.{◌≡◌, ℕ, List, Option, None, Some, refl}
use Rattle.std.specs.Prelude.{IfSome, IfNone}
use Rattle.std.specs.Borrow.{Bor}
use Rattle.std.specs.Option.{option_copied}
use Rattle.plan_commands.specs.declared.arguments.Command.{Command}
use Rattle.plan_commands.specs.Arguments.{IsCommand, AreInvalid}
use Rattle.plan_commands.specs.Commands.{job_of, AreCommand}

module _ (arguments : List (List ℕ)) where
  -- what is read of the arguments is the command that they are
  pub read-command : (command : Option Command) → IfSome command (λ c. IsCommand arguments (job_of c)) → IfNone command (AreInvalid arguments)
      → AreCommand arguments command
  read-command None some none = none
  read-command (Some command) some none = some

  -- invalid arguments are none
  pub no-command : (command : Option (Bor Command)) → AreCommand arguments (option_copied command) → AreInvalid arguments → command ≡ None
  no-command None are invalid = refl
  no-command (Some command) are invalid = absurd (invalid (job_of command.now) are)

  -- and arguments that are none are invalid
  pub none-invalid : (command : Option (Bor Command)) → AreCommand arguments (option_copied command) → command ≡ None → AreInvalid arguments
  none-invalid command are is = rw is at are

  -- the arguments are the command that is there
  pub some-command : (command : Option (Bor Command)) (there : Bor Command) → AreCommand arguments (option_copied command) → command ≡ Some there
      → IsCommand arguments (job_of there.now)
  some-command command there are is = rw is at are
