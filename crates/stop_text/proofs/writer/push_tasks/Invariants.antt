use Rattle.std.proofs.Common.{◌≡◌, ◌++◌, take, All}
use Rattle.hold_limits.specs.Faults.{IsLawful}
use Rattle.text_lines.specs.WordRuns.{run_text}
use Rattle.problem_text.specs.TaskText.{IsSpelled}
use Rattle.stop_text.proofs.WrittenFile.{task_text}
use Rattle.stop_text.proofs.writer.push_tasks.Given as goal

abbrev pub invariant-loop-task : goal.invariant-loop-task
invariant-loop-task l = record {
  added : l.out ≡ l.fn.out ++ run_text task_text (take l.task-index l.tasks);
  spelled : All IsSpelled (take l.task-index l.tasks);
  lawful : All IsLawful (take l.task-index l.tasks);
}
