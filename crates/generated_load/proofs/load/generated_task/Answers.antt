use Rattle.generated_load.proofs.LawfulLemmas.{task-is-right}
use Rattle.generated_load.proofs.load.generated_task.Goals as goal

pub unreachable-requires : goal.unreachable-requires
unreachable-requires c =
    let wrong = rw (c.in_ok-hold.ensures, c.in_ok-items.ensures, c.new.ensures.items, task-is-right c.args.number) at c.in-Err.ensures.refused in
    absurd (cc wrong)
