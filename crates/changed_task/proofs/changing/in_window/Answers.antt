use Rattle.std.proofs.Common.{◌≡◌, ◌∙◌, ap, rules}
use Rattle.hold_limits.specs.Faults.{task_fault}
use Rattle.changed_task.specs.Parts.{with_parts, in_window}
use Rattle.changed_task.proofs.LawfulTasks.{in_window-right}
use Rattle.changed_task.proofs.changing.in_window.Goals as goal

pub with_parts-requires : goal.with_parts-requires
with_parts-requires c =
    let t = c.args.task.now in
    let same : with_parts t c.in_ok-hold.hold c.in_ok-items.items.items c.args.low.0 c.args.high.0 ≡ in_window t c.args.low.0 c.args.high.0 = search rules in
    ap task_fault same ∙ in_window-right t c.args.low.0 c.args.high.0 c.items.ensures.lawful c.requires.low c.requires.high
