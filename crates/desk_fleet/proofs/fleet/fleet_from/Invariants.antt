use Rattle.std.proofs.Common.{◌≡◌, length, take}
use Rattle.desk_fleet.specs.Fleet.{names_of}
use Rattle.desk_fleet.proofs.FleetLemmas.{IsSoFar}
use Rattle.desk_fleet.proofs.fleet.fleet_from.Given as goal

abbrev pub invariant-loop-name : goal.invariant-loop-name
invariant-loop-name g l = record {
  same : g.F.Shelf.files l.shelf ≡ g.F.Shelf.files l.fn.shelf;
  uncounted : g.F.Shelf.faults l.shelf ≡ g.F.Shelf.faults l.fn.shelf;
  many : length l.fleet.items ≡ l.name-index;
  far : IsSoFar (g.F.Shelf.files l.fn.shelf) (names_of (take l.name-index l.fn.names)) l.fleet.items;
}
