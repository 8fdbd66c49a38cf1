use Rattle.std.proofs.Common.{◌≡◌, ◌*◌, ◌≤◌, take}
use Rattle.trim.specs.Loads.{loose_mass}
use Rattle.last_minute.proofs.loads.mass_of_loads.Given as goal

abbrev pub invariant-loop-load : goal.invariant-loop-load
invariant-loop-load l = (l.mass ≡ loose_mass (take l.load-index l.loads)) × (l.mass ≤ 1300000 * l.load-index)
