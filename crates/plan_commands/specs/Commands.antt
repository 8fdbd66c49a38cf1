-- The commands as the program keeps them.
use Rattle.plan_commands.specs.declared.arguments.TransitNames.{TransitNames}
use Rattle.plan_commands.specs.declared.arguments.Command.{Command}
use Rattle.plan_commands.specs.declared.arguments.Command.TheVariants as command
use Rattle.std.specs.Prelude.{List, ℕ, Option, None, Some}
use Rattle.plan_commands.specs.Arguments.{FlightNames, Job, IsCommand, AreInvalid}
use Rattle.plan_commands.specs.Arguments.Job.{place, check, best, why, check_any, priced, check_priced, stops, transit, generate}

-- the names of a flight in transit as the arguments have them
abbrev pub names_of : TransitNames → FlightNames
names_of names =
    record { task = names.task.now; cpm = names.cpm.now; ldm = names.ldm.now; station = names.station; next = names.next }

-- the job that a command is for
abbrev pub job_of : Command → Job
job_of (command.Place task budget) = place task.now budget
job_of (command.Check task certificate) = check task.now certificate.now
job_of (command.Best task looks) = best task.now looks
job_of (command.Why task looks) = why task.now looks
job_of (command.CheckAny task certificate) = check_any task.now certificate.now
job_of (command.Priced task budget) = priced task.now budget
job_of (command.CheckPriced task certificate) = check_priced task.now certificate.now
job_of (command.Stops file budget) = stops file.now budget
job_of (command.Transit names question) = transit (names_of names) question
job_of (command.Generate number) = generate number

-- the arguments are this command, or are invalid where there is none
abbrev pub AreCommand : List (List ℕ) → Option Command → Type 0
AreCommand arguments None = AreInvalid arguments
AreCommand arguments (Some command) = IsCommand arguments (job_of command)
