use Rattle.std.proofs.Common.{◌≡◌, ◌*◌, ◌≤◌, take}
use Rattle.trim.specs.Loads.{container_mass}
use Rattle.last_minute.proofs.issuing.mass_of_containers.Given as goal

abbrev pub invariant-loop-item : goal.invariant-loop-item
invariant-loop-item l = (l.mass ≡ container_mass (take l.item-index l.items)) × (l.mass ≤ 1000000 * l.item-index)
