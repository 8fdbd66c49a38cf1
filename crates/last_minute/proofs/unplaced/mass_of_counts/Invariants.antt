use Rattle.std.proofs.Common.{◌≡◌, ◌*◌, ◌≤◌, take}
use Rattle.payload.specs.Load.{cabin_mass}
use Rattle.last_minute.proofs.unplaced.mass_of_counts.Given as goal

abbrev pub invariant-loop-count : goal.invariant-loop-count
invariant-loop-count l = (l.mass ≡ cabin_mass l.averages (take l.count-index l.counts)) × (l.mass ≤ 899100 * l.count-index)
