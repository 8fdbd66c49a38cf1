use Rattle.std.proofs.Common.{◌≡◌, ◌==◌, ◌*◌, ◌≤◌, take}
use Rattle.hold_limits.specs.Placement.{placed_load}
use Rattle.last_minute.specs.Sheets.{stowed}
use Rattle.last_minute.proofs.places.Stowage.mass_of_containers_on.Given as goal

abbrev pub invariant-loop-rank : goal.invariant-loop-rank
invariant-loop-rank l =
    (l.mass ≡ placed_load (λ other. other == l.number) (take l.rank (stowed l.self))) × (l.mass ≤ 1000000 * l.rank)
