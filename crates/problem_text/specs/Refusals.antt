-- why a text is refused
use Rattle.std.specs.Prelude.{◌≡◌, List, ℕ, Some, None}
use Rattle.hold_limits.specs.Problem.{Problem}
use Rattle.hold_limits.specs.Faults.{hold_fault, task_fault}
use Rattle.hold_limits.specs.declared.fault.HoldFault.{HoldFault}
use Rattle.hold_limits.specs.declared.fault.TaskFault.{TaskFault}
use Rattle.text_lines.specs.Grammar.{Fails}
use Rattle.text_lines.specs.Stated.{AreLinesOf}
use Rattle.text_lines.specs.declared.fault.LineFault.{LineFault}
use Rattle.problem_text.specs.TaskText.{task_lines, IsSpelled, Spells}
use Rattle.problem_text.specs.Reading.{text_fault}
use Rattle.problem_text.specs.declared.fault.TextFault.{TextFault}
use Rattle.problem_text.specs.declared.fault.TextFault.TheVariants.{Hold, Task}

-- these are all lines of some task
abbrev pub AreTask : List (List ℕ) → Type 0
AreTask = AreLinesOf IsSpelled task_lines

-- the text is refused for this fault
pub data IsRefused (text : List ℕ) : TextFault → Type 0 where
  -- it is not made of the lines of a task
  wrong_lines : (fault : LineFault) → Fails AreTask text 1 fault → IsRefused text (text_fault fault)
  -- it spells a task whose hold has this first fault
  wrong_hold : (t : Problem) (fault : HoldFault) → Spells text t → hold_fault t.hold ≡ Some fault → IsRefused text (Hold fault)
  -- it spells a task with a lawful hold and this first fault
  wrong_task : (t : Problem) (fault : TaskFault) → Spells text t → hold_fault t.hold ≡ None → task_fault t ≡ Some fault
      → IsRefused text (Task fault)
