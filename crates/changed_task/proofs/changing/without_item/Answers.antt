use Rattle.std.proofs.Common.{◌≡◌, ◌∙◌, ap, rules}
use Rattle.hold_limits.specs.Faults.{task_fault}
use Rattle.changed_task.specs.Parts.{with_parts, without_item}
use Rattle.changed_task.proofs.LawfulTasks.{without_item-right}
use Rattle.changed_task.proofs.changing.without_item.Goals as goal

pub with_parts-requires : goal.with_parts-requires
with_parts-requires c =
    let t = c.args.task.now in
    let same : with_parts t c.in_ok-hold.hold c.remove.new.self.items c.low.result.0 c.high.result.0 ≡ without_item t c.args.at = search rules in
    ap task_fault same ∙ without_item-right t c.args.at c.items.ensures.lawful c.requires
