use Rattle.std.proofs.Common.{◌≡◌, ◌++◌, map, take}
use Rattle.ldm_cpm.specs.Reading.{placing_said}
use Rattle.transit_tasks.specs.Staying.{lying}
use Rattle.transit_tasks.proofs.around.loads_around.Given as goal

abbrev pub invariant-loop-place : goal.invariant-loop-place
invariant-loop-place l = l.loads.items ≡ l.task.loose ++ map (lying l.task.hold.positions) (map placing_said (take l.place-index l.stay))
