use Rattle.std.proofs.Common.{◌≡◌, drop}
use Rattle.std.specs.Prelude.{find}
use Rattle.transit_messages.specs.Entries.{placed_aboard}
use Rattle.transit_messages.specs.Onward.{stands_on}
use Rattle.transit_messages.proofs.onward.Aboard.container_on.Given as goal

abbrev pub invariant-loop-rank : goal.invariant-loop-rank
invariant-loop-rank l =
    find (stands_on l.number) (drop l.rank (placed_aboard l.self)) ≡ find (stands_on l.number) (placed_aboard l.self)
