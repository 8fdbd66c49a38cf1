use Rattle.std.proofs.Common.{◌≡◌, ◌==◌, ◌*◌, ◌≤◌, take}
use Rattle.hold_limits.specs.Placement.{loose_load}
use Rattle.last_minute.proofs.places.Stowage.mass_of_loose_on.Given as goal

abbrev pub invariant-loop-load : goal.invariant-loop-load
invariant-loop-load l =
    (l.mass ≡ loose_load (λ other. other == l.number) (take l.load-index l.self.loose.now)) × (l.mass ≤ 1300000 * l.load-index)
