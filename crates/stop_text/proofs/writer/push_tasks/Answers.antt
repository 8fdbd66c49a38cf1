use Rattle.std.proofs.Common.{◌++◌, ◌∙◌, ap, subst}
use Rattle.std.proofs.lemmas.List.Elements.{All-more}
use Rattle.hold_limits.specs.Faults.{IsLawful}
use Rattle.text_lines.proofs.GrowingTexts.{run_grows_by}
use Rattle.problem_text.specs.TaskText.{IsSpelled}
use Rattle.stop_text.proofs.WrittenFile.{task_text}
use Rattle.stop_text.proofs.writer.push_tasks.Goals as goal

pub loop-task-preserved : goal.loop-task-preserved
loop-task-preserved c =
    let tasks = c.args.tasks.now in
    let at = c.loop-task.task-index in
    let task = c.task-item.result in
    let written = c.in_ok-text.ensures in
    let grew = c.in_ok-text-2.ensures.added ∙ ap (λ piece. c.loop-task.out ++ piece) (c.as_slice.ensures.value ∙ written.is) in
    record {
      added = run_grows_by task_text tasks at task c.args.out.now c.loop-task.out _ c.loop-task-test.true c.task-item.is c.loop-task.invariant.added grew;
      spelled = All-more IsSpelled tasks at task c.loop-task-test.true c.loop-task.invariant.spelled (subst IsSpelled c.task-item.is written.spelled);
      lawful = All-more IsLawful tasks at task c.loop-task-test.true c.loop-task.invariant.lawful (subst IsLawful c.task-item.is c.items-lawful.ensures.lawful);
    }
