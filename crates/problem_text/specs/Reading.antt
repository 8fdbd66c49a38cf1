-- what the steps of the reader return
use Rattle.std.specs.Prelude.{◌≡◌, ℕ, List, Some, None}
use Rattle.hold_limits.specs.Problem.{Problem}
use Rattle.hold_limits.specs.Faults.{hold_fault, task_fault}
use Rattle.problem_text.specs.Grammar.{version_line}
use Rattle.problem_text.specs.declared.parts.Version.{Version}
use Rattle.text_lines.specs.declared.fault.LineFault.{LineFault}
use Rattle.text_lines.specs.declared.fault.LineFault.TheVariants as line
use Rattle.problem_text.specs.declared.fault.TextFault.{TextFault}
use Rattle.problem_text.specs.declared.fault.TextFault.TheVariants.{Line, NoEnd, Hold, Task, NoMemory}

-- the line is one of the two with which a task may begin
abbrev pub IsVersionLine : List ℕ → Type 0
IsVersionLine line = (version : Version) × (line ≡ version_line version)

-- a fault of the lines, as a fault of the text
abbrev pub text_fault : LineFault → TextFault
text_fault (line.Line n) = Line n
text_fault line.NoEnd = NoEnd
text_fault line.NoMemory = NoMemory

-- the fault is the first of the hold, or else of the task
abbrev pub IsFaultOf : Problem → TextFault → Type 0
IsFaultOf t (Line n) = ⊥
IsFaultOf t NoEnd = ⊥
IsFaultOf t (Hold fault) = hold_fault t.hold ≡ Some fault
IsFaultOf t (Task fault) = (hold_fault t.hold ≡ None) × (task_fault t ≡ Some fault)
IsFaultOf t NoMemory = ⊥
