use Rattle.std.proofs.Common.{◌≡◌, [], drop, map, take}
use Rattle.ldm_cpm.specs.Reading.{placing_said}
use Rattle.transit_tasks.specs.TransitFaults.{first_place_fault}
use Rattle.transit_tasks.proofs.places.first_place_fault.Given as goal

abbrev pub invariant-loop-at : goal.invariant-loop-at
invariant-loop-at l =
    first_place_fault l.task [] (map placing_said l.stay) ≡ first_place_fault l.task (map placing_said (take l.at l.stay)) (map placing_said (drop l.at l.stay))
