use Rattle.std.proofs.Common.{◌∷◌, ◌++◌, [], ap, map, ◌∙◌}
use Rattle.hold_parts.specs.declared.parts.Position.{Position}
use Rattle.ldm_cpm.specs.Reading.{placing_said}
use Rattle.transit_tasks.specs.NewTask.{position_around}
use Rattle.transit_tasks.specs.Staying.{staying_containers}
use Rattle.transit_tasks.proofs.AroundLemmas.{told-more}
use Rattle.transit_tasks.proofs.around.positions_around.Goals as goal

pub loop-number-preserved : goal.loop-number-preserved
loop-number-preserved c =
    let hold = c.args.hold.now in
    let containers = staying_containers hold.positions (map placing_said c.args.stay.now) in
    c.in_ok-push.ensures.items
    ∙ ap (λ (p : Position). c.loop-number.around.items ++ p ∷ []) c.in_ok-next.ensures
    ∙ told-more (position_around hold containers) c.args.positions.now c.loop-number.number c.index-positions-number.result c.loop-number.around.items
    c.loop-number-test.true c.index-positions-number.is c.loop-number.invariant
