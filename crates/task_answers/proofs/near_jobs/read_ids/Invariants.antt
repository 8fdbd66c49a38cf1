use Rattle.std.proofs.Common.{All, take}
use Rattle.hold_parts.specs.Spellings.{IsUldId}
use Rattle.hold_parts.specs.declared.parts.Item.{Item}
use Rattle.task_answers.proofs.near_jobs.read_ids.Given as goal

abbrev pub invariant-loop-item : goal.invariant-loop-item
invariant-loop-item l = All (λ (item : Item). IsUldId item.id) (take l.item-index l.items)
