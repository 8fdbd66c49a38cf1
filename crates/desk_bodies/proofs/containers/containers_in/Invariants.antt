use Rattle.std.proofs.Common.{◌≡◌, ◌++◌, drop, map, All}
use Rattle.csv.specs.Records.{fields_of}
use Rattle.flight_row.specs.Spelled.{IsSpelledContainer}
use Rattle.desk_bodies.specs.Containers.{record_of}
use Rattle.desk_bodies.proofs.containers.containers_in.Given as goal

abbrev pub invariant-loop-row : goal.invariant-loop-row
invariant-loop-row l = record {
  done : map fields_of l.rows ≡ map record_of l.containers.items ++ map fields_of (drop l.row-index l.rows);
  spelled : All IsSpelledContainer l.containers.items;
}
