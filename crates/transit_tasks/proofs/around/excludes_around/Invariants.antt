use Rattle.std.proofs.Common.{◌≡◌, map, take}
use Rattle.std.specs.Prelude.{filter}
use Rattle.ldm_cpm.specs.Reading.{placing_said}
use Rattle.transit_tasks.specs.NewTask.{is_open_pair}
use Rattle.transit_tasks.specs.Staying.{staying_containers}
use Rattle.transit_tasks.proofs.around.excludes_around.Given as goal

abbrev pub invariant-loop-pair : goal.invariant-loop-pair
invariant-loop-pair l =
    l.around.items ≡ filter (is_open_pair l.hold (staying_containers l.hold.positions (map placing_said l.stay))) (take l.pair-index l.excludes)
