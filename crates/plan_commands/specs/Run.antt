-- How a run ends, and what it leaves.
use Rattle.std.specs.Prelude.{◌≡◌, ◌≢◌, ℕ, List, Option, Some, Result, Ok, Err, IfOk}
use Rattle.base_words.specs.Faults.{Rose}
use Rattle.load_io.specs.Shelf.{Files}
use Rattle.load_io.specs.Sink.{Appends, AppendsPart}
use Rattle.task_answers.specs.declared.reply.Outcome.{Outcome}
use Rattle.task_answers.specs.declared.reply.Outcome.TheVariants.{Done, Usage, BadInput, NothingFits, OverBudget, Undecided, Rejected}
use Rattle.plan_commands.specs.declared.ending.Stop.{Stop}
use Rattle.plan_commands.specs.declared.ending.Stop.TheVariants.{ReadFault, WriteFault, NoMemory}
use Rattle.plan_commands.specs.Arguments.{AreInvalid}
use Rattle.plan_answers.specs.ReplyText.{usage_text}
use Rattle.plan_commands.specs.Reply.{IsReplyOver, IsAnswered, HaveInput, HaveBadInput}

-- the exit status
abbrev pub exit_status : Result Outcome Stop → ℕ
exit_status (Ok Done) = 0
exit_status (Ok Usage) = 2
exit_status (Ok BadInput) = 3
exit_status (Ok NothingFits) = 4
exit_status (Ok OverBudget) = 5
exit_status (Ok Undecided) = 5
exit_status (Ok Rejected) = 10
exit_status (Err ReadFault) = 6
exit_status (Err WriteFault) = 7
exit_status (Err NoMemory) = 9

-- the files and the output, as far as they are exposed, and how many reads and writes have failed
pub record Outside : Type 0 where
  pub files : Option Files
  pub failed_reads : ℕ
  pub output : Option (List ℕ)
  pub failed_writes : ℕ

abbrev pub outside : Option Files → ℕ → Option (List ℕ) → ℕ → Outside
outside files failed_reads output failed_writes = record { files = files; failed_reads = failed_reads; output = output; failed_writes = failed_writes }

-- how a run with these arguments ends; only a failed read or write raises its count
pub data Ends (arguments : List (List ℕ)) (before after : Outside) : Result Outcome Stop → Type 0 where
  -- the whole reply was printed
  replied : (outcome : Outcome) (text : List ℕ) → IsReplyOver arguments before.files outcome text → Appends before.output after.output text
      → after.failed_reads ≡ before.failed_reads → after.failed_writes ≡ before.failed_writes
      → Ends arguments before after (Ok outcome)
  -- a file could not be read, and nothing was printed
  read_fault : Rose before.failed_reads after.failed_reads → after.output ≡ before.output
      → after.failed_writes ≡ before.failed_writes → Ends arguments before after (Err ReadFault)
  -- a write failed, and a proper prefix of the reply was printed
  write_fault : (outcome : Outcome) (text : List ℕ) → IsReplyOver arguments before.files outcome text → AppendsPart before.output after.output text
      → after.failed_reads ≡ before.failed_reads → Rose before.failed_writes after.failed_writes
      → Ends arguments before after (Err WriteFault)
  -- memory ran out, and nothing was printed
  no_memory : after.output ≡ before.output → after.failed_reads ≡ before.failed_reads → after.failed_writes ≡ before.failed_writes
      → Ends arguments before after (Err NoMemory)

-- the arguments are invalid, and the output says so
pub record IsUsage (arguments : List (List ℕ)) (before after : Outside) : Type 0 where
  pub invalid : AreInvalid arguments
  pub appended : Appends before.output after.output usage_text

-- a run with these arguments: how it ends and what it leaves
pub record IsRun (arguments : List (List ℕ)) (before after : Outside) (ending : Result Outcome Stop) : Type 0 where
  pub ends : Ends arguments before after ending
  -- the files stay as they were
  pub same_files : after.files ≡ before.files
  -- arguments are reported as invalid exactly if they are; then no read fails
  pub usage : ending ≡ Ok Usage → IsUsage arguments before after
  pub invalid : AreInvalid arguments → IfOk ending (λ outcome. outcome ≡ Usage)
  pub unread : AreInvalid arguments → ending ≢ Err ReadFault
  -- a command whose files are there and right is answered
  pub complete : (files : Files) → before.files ≡ Some files → HaveInput arguments files → IfOk ending IsAnswered
  -- a wrong file is refused
  pub refused : (files : Files) → before.files ≡ Some files → HaveBadInput arguments files → IfOk ending (λ outcome. outcome ≡ BadInput)

-- a run with these arguments that exits with this status
pub record ExitsWith (arguments : List (List ℕ)) (before after : Outside) (status : ℕ) : Type 0 where
  pub ending : Result Outcome Stop
  pub status_is : status ≡ exit_status ending
  pub run : IsRun arguments before after ending
