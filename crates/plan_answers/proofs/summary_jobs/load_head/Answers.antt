use Rattle.std.proofs.Common.{◌≤◌, List, sym, subst}
use Rattle.std.specs.Prelude.{All}
use Rattle.hold_parts.specs.declared.parts.Item.{Item}
use Rattle.hold_limits.proofs.LawfulBounds.{lawful-bounds}
use Rattle.plan_answers.proofs.summary_jobs.load_head.Goals as goal

IsLight : Item → Type 0
IsLight item = item.mass.0 ≤ 20000

pub total_mass-requires-clause-light : goal.total_mass-requires-clause-light
unfolding IsLight
total_mass-requires-clause-light c =
    subst (λ (items : List Item). All IsLight items) (sym c.items.ensures.value) (lawful-bounds c.args.task.now c.items.ensures.lawful).item_masses
