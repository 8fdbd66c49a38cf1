use Rattle.std.proofs.Common.{◌≡◌, map, subst}
use Rattle.hold_limits.specs.Layout.{Layout}
use Rattle.ldm_cpm.specs.Reading.{placing_said}
use Rattle.transit_tasks.specs.NewTask.{hold_around}
use Rattle.transit_tasks.specs.Staying.{staying_containers}
use Rattle.transit_tasks.proofs.staying.parts_of.Goals as goal

pub returns-clause-hold : goal.returns-clause-hold
returns-clause-hold c =
    let stay = map placing_said c.args.stay.now in
    subst (λ (h : Layout). c.in_ok-hold_around.field-0 ≡ hold_around h (staying_containers h.positions stay)) c.hold.ensures.value c.in_ok-hold_around.ensures
