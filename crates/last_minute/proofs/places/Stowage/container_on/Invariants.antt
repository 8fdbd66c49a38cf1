use Rattle.std.proofs.Common.{◌≡◌, ◌==◌, drop}
use Rattle.std.specs.Prelude.{find}
use Rattle.hold_limits.specs.Placement.{Placed}
use Rattle.last_minute.specs.Sheets.{stowed}
use Rattle.last_minute.proofs.places.Stowage.container_on.Given as goal

abbrev pub invariant-loop-rank : goal.invariant-loop-rank
invariant-loop-rank l =
    find (λ (p : Placed). p.1 == l.number) (drop l.rank (stowed l.self)) ≡ find (λ (p : Placed). p.1 == l.number) (stowed l.self)
