use Rattle.std.proofs.Common.{◌≡◌, ◌∙◌, map, ap, sym, subst, rules}
use Rattle.hold_limits.specs.Faults.{IsWellSpelled, hold_fault}
use Rattle.hold_limits.specs.Layout.{layout_of}
use Rattle.ldm_cpm.specs.Reading.{placing_said}
use Rattle.transit_tasks.specs.NewTask.{positions_around, excludes_around, hold_around}
use Rattle.transit_tasks.specs.Staying.{staying_containers}
use Rattle.transit_tasks.proofs.LawfulAround.{around-lawful, bare-lawful}
use Rattle.transit_tasks.proofs.around.bare_hold_around.Goals as goal

pub new-requires : goal.new-requires
new-requires c =
    let hold = c.args.hold.now in
    let containers = staying_containers hold.positions (map placing_said c.args.stay.now) in
    let lawful = bare-lawful (hold_around hold containers) (around-lawful hold containers c.combined.ensures.lawful) in
    let same : layout_of c.in_ok-positions.positions.items c.in_ok-excludes.excludes.items c.in_ok-combined.combined.items c.in_ok-cumulative.cumulative.items
    ≡ layout_of (positions_around hold containers) (excludes_around hold containers) hold.combined hold.cumulative = search rules in
    subst IsWellSpelled (sym same) lawful.spelled

pub unreachable-requires : goal.unreachable-requires
unreachable-requires c =
    let hold = c.args.hold.now in
    let containers = staying_containers hold.positions (map placing_said c.args.stay.now) in
    let lawful = bare-lawful (hold_around hold containers) (around-lawful hold containers c.combined.ensures.lawful) in
    let same : layout_of c.in_ok-positions.positions.items c.in_ok-excludes.excludes.items c.in_ok-combined.combined.items c.in_ok-cumulative.cumulative.items
    ≡ layout_of (positions_around hold containers) (excludes_around hold containers) hold.combined hold.cumulative = search rules in
    absurd (cc (sym lawful.right ∙ ap hold_fault (sym same) ∙ c.in-Err.ensures.refused))
